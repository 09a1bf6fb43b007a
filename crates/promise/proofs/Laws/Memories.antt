-- A unit's memory written: where it is not R's, and the sent stretch is kept, the message stands as it stood.
-- Assumes nothing.
use Rattle.std.specs.Prelude.{List, ◌≡◌, ℕ, ◌+◌, ◌<◌, length, get_or}
use Rattle.std.proofs.Common.{sym, ◌∙◌, eqb-true, ne_eqb}
use Rattle.delivery.specs.Ends.{Message}
use Rattle.delivery.specs.Laws.Invariant.{Delivering}
use Rattle.delivery.specs.Laws.Others.{host_writes}
use Rattle.delivery.specs.Laws.Slices.{State}
use Rattle.frames.specs.Laws.Sides.{replaced_other}
use Rattle.promise.specs.Opening.{Parties, ends_of, message_in}
use Rattle.promise.proofs.Laws.Standing.{Standing}
use Rattle.promise.specs.World.{World, with_memory}

module _ (p : Parties) (start : World) (q : State) (w : World) (s : Standing p start q w) (unit : ℕ) (new : List ℕ) where
  abbrev m : Message
  m = message_in p start

  pub written_elsewhere : (p.receiver ≡ unit → ⊥)
      → ((i : ℕ) → i < length m.rest → get_or (with_memory w.memory unit new p.sender) (m.source + i) 0 ≡ get_or (w.memory p.sender) (m.source + i) 0)
      → Delivering m q
      (record {
        transmitter = (ends_of p w).transmitter;
        receiver = (ends_of p w).receiver;
        sending = with_memory w.memory unit new p.sender;
        receiving = with_memory w.memory unit new p.receiver;
      })
  written_elsewhere theirs kept =
      let d = s.delivering in
      rw (ne_eqb p.receiver unit theirs)
      (host_writes m q (ends_of p w) d (with_memory w.memory unit new p.sender) (λ i h. kept i h ∙ d.holds i h)
      (λ shared. replaced_other w.memory unit new p.sender (λ e. theirs (sym (eqb-true p.sender p.receiver shared) ∙ e)) ∙ d.one shared))
