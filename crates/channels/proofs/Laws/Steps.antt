-- What is shown of every event: it goes on with the channels as they are, or it is a fit, and they begin anew.
-- Assumes nothing.
use Rattle.std.specs.Prelude.{true, false, List, ◌⊎◌, ◌≡◌, ℕ, ◌<◌}
use Rattle.std.proofs.Common.{true≢false, inl, sym, ◌∙◌, arith}
use Rattle.cells.specs.Fitted.{transmitter_of, receiver_of}
use Rattle.cells.specs.Layout.{count_in, transmitter_address}
use Rattle.cells.specs.Ranges.{in_range}
use Rattle.cells.specs.Laws.FrameLaws.{receiver_address_kept, transmitter_address_kept}
use Rattle.ends.specs.Ends.{raised}
use Rattle.frames.specs.Laws.Kept.{Kept}
use Rattle.promise.specs.Kinds.{Kind, kind_of, own}
use Rattle.promise.specs.World.{World, Event, step}
use Rattle.receiver.specs.declared.side.Receiver.{Receiver}
use Rattle.silos.specs.Silo.{count}
use Rattle.transmitter.specs.declared.side.Transmitter.{Transmitter}
use Rattle.channels.specs.Statement.{FromSilo, Joined, Passed, mask_of}
use Rattle.channels.proofs.Laws.Begins.{Begins}
use Rattle.channels.proofs.Laws.Quiet.{Quiet}

-- T and R, where they are open with each other, have counted as many words
abbrev pub Even : List ℕ → ℕ → ℕ → Type 0
Even cells u v = Joined cells u v → (transmitter_of cells u).end.block ≡ (receiver_of cells v).end.block

-- a transmitter that does not open keeps its serial, and one that opens raises it
abbrev pub Counts : Transmitter → Transmitter → Type 0
Counts t after =
    ((t.end.opened ≡ false → after.end.opened ≡ true → ⊥) → after.end.serial ≡ t.end.serial)
    × (t.end.opened ≡ false → after.end.opened ≡ true → after.end.serial ≡ raised t.end.serial)

-- a receiver that does not open keeps its own
abbrev pub Keeps : Receiver → Receiver → Type 0
Keeps r after = (r.end.opened ≡ false → after.end.opened ≡ true → ⊥) → after.end.serial ≡ r.end.serial

-- R has taken a word of T's, in T's own slice, and the channel is then open at both ends
pub record Took (kind : ℕ → Kind) (mask : ℕ) (cells after : List ℕ) (u v : ℕ) : Type 0 where
  pub fitted : u < count_in cells
  pub own : kind (transmitter_address cells u) ≡ own
  pub joined : Joined after u v
  pub passed : Passed (transmitter_of cells u) mask (receiver_of cells v) (receiver_of after v)
  pub word : Even cells u v → FromSilo (transmitter_of cells u)

-- with what the event is to the transmitter that has an address, and its damage mask
pub record Goes (kind : ℕ → Kind) (mask : ℕ) (cells after : List ℕ) : Type 0 where
  pub ranged : in_range after ≡ true
  pub kept : Kept cells after
  -- a transmitter opens in its own slice, and in nothing else
  pub opens : (k : ℕ) → k < count_in cells → (transmitter_of cells k).end.opened ≡ false → (transmitter_of after k).end.opened ≡ true
      → kind (transmitter_address cells k) ≡ own
  -- what is open at both ends was so, or both open
  pub joins : (u v : ℕ) → u < count_in cells → v < count_in cells → Joined after u v
      → Joined cells u v ⊎ (((transmitter_of cells u).end.opened ≡ false) × ((receiver_of cells v).end.opened ≡ false))
  -- where both had counted as many words, so they have
  pub counts : (u v : ℕ) → u < count_in cells → v < count_in cells → Even cells u v → Even after u v
  pub stores : (v : ℕ) → v < count_in cells → count (receiver_of cells v).end.silo < count (receiver_of after v).end.silo → (u : ℕ) × Took kind mask cells after u v
  -- a receiver opens by a word of a transmitter's, which opens too
  pub opens_there : (v : ℕ) → v < count_in cells → (receiver_of cells v).end.opened ≡ false → (receiver_of after v).end.opened ≡ true
      → (u : ℕ) × ((transmitter_of cells u).end.opened ≡ false) × Took kind mask cells after u v
  -- and a transmitter with a receiver that opens too
  pub opens_with : (k : ℕ) → k < count_in cells → (transmitter_of cells k).end.opened ≡ false → (transmitter_of after k).end.opened ≡ true
      → (v : ℕ) × (v < count_in cells) × ((receiver_of cells v).end.opened ≡ false) × Joined after k v
  -- the serials
  pub serials : (k : ℕ) → k < count_in cells → Counts (transmitter_of cells k) (transmitter_of after k)
  pub serials_there : (v : ℕ) → v < count_in cells → Keeps (receiver_of cells v) (receiver_of after v)
  pub copies : (u v : ℕ) → u < count_in cells → v < count_in cells → (transmitter_of cells u).end.opened ≡ false → Joined after u v
      → (transmitter_of after u).end.serial ≡ (receiver_of after v).end.serial

abbrev pub GoesOn : Event → World → Type 0
GoesOn e w = Goes (λ address. kind_of address e w) (mask_of e) w.cells (step e w).cells

abbrev pub Steps : Event → World → Type 0
Steps e w = GoesOn e w ⊎ Begins (step e w).cells

-- where nothing opens
quiet_joined : {cells after : List ℕ} → Quiet cells after → (u v : ℕ) → u < count_in cells → v < count_in cells → Joined after u v → Joined cells u v
quiet_joined {cells} {after} q u v here there j =
    let t = (q.transmitter u here).1 j.opened in
    let r = (q.receiver v there).1 j.opened_there in
    record {
      opened = t.0;
      destination = sym t.1 ∙ j.destination ∙ receiver_address_kept cells after q.kept.own v;
      opened_there = r.0;
      sender = sym r.1 ∙ j.sender ∙ transmitter_address_kept cells after q.kept.own u;
    }

pub quiet_goes : (kind : ℕ → Kind) (mask : ℕ) {cells after : List ℕ} → Quiet cells after → Goes kind mask cells after
quiet_goes kind mask {cells} {after} q =
    record {
      ranged = q.ranged;
      kept = q.kept;
      opens = λ k there shut open_now. absurd (true≢false (sym ((q.transmitter k there).1 open_now).0 ∙ shut));
      joins = λ u v here there j. inl (quiet_joined q u v here there j);
      counts = λ u v here there even j.
          ((q.transmitter u here).1 j.opened).2 ∙ even (quiet_joined q u v here there j) ∙ sym ((q.receiver v there).1 j.opened_there).2;
      stores = λ v there more. absurd (omega (arith, (q.receiver v there).2));
      opens_there = λ v there shut o. absurd (true≢false (sym ((q.receiver v there).1 o).0 ∙ shut));
      opens_with = λ k there shut o. absurd (true≢false (sym ((q.transmitter k there).1 o).0 ∙ shut));
      serials = λ k there. (λ none. (q.transmitter k there).0, λ shut o. absurd (true≢false (sym ((q.transmitter k there).1 o).0 ∙ shut)));
      serials_there = λ v there none. (q.receiver v there).0;
      copies = λ u v here there shut j. absurd (true≢false (sym ((q.transmitter u here).1 j.opened).0 ∙ shut));
    }
