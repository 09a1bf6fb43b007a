-- The promise over runs of calls, proved: over every run of calls from a fit, in any order and with anything that a call can be handed
-- (`Handed`), damage and further fits included. The proofs stand in `Laws`.
-- Assumes nothing.
use Rattle.std.proofs.Common.{true≢false, ap, sym, ◌∙◌, arith}
use Rattle.std.specs.Prelude.{List, ◌≡◌, ℕ, ◌<◌, Ok}
use Rattle.cells.specs.Layout.{count_in}
use Rattle.promise.specs.Reports.{Serial}
use Rattle.promise.proofs.Laws.RegisterReads.{serial_is}
use Rattle.promise.specs.World.{World, Event, fit, AllHanded, number_of, step}
use Rattle.channels.specs.History.{Past, fresh, past}
use Rattle.channels.specs.Statement.{Channels}
use Rattle.channels.proofs.Laws.Events.{fit_done}
use Rattle.channels.proofs.Laws.Runs.{Counted, Sound, joined_since, kept_so, opened_by, opens_with, outlasts, own_opening, past_counted, past_sound, same_sender, shown_count, shown_together, stored_from, succeeded_between}

module _ (w : World) (setup : List ℕ) (done : number_of (fit setup) w ≡ 0) where
  -- the world that the fit leaves, whatever was lent to it
  abbrev pub begun : Past
  begun = fresh (step (fit setup) w)

  sound : Sound begun
  sound =
      let b = fit_done w.cells setup done in
      record {
        ranged = b.ranged;
        apart = b.apart;
        earlier = λ k. omega arith;
        together = λ u v here there j. absurd (true≢false (sym j.opened ∙ b.closed u here));
        counts = λ u v j. absurd (true≢false (sym j.joined.opened ∙ b.closed u j.fitted));
        serials = λ u v j. absurd (true≢false (sym j.joined.opened ∙ b.closed u j.fitted));
        alone = λ u v here there o c same. absurd (true≢false (sym o ∙ b.closed u here));
      }

  none_opened : Counted begun
  none_opened k there = (fit_done w.cells setup done).serials k there

  -- "Only a new fit resets it, to 0": the serials that the run begins with, whatever was lent to the fit
  pub serials_begin : (unit : ℕ) → unit < count_in begun.world.cells → Serial begun.world unit 0 0 × Serial begun.world unit 1 0
  serials_begin unit there =
      let b = fit_done w.cells setup done in (
        serial_is begun.world b.ranged unit there 0 0 (ap Ok (b.serials unit there)),
        serial_is begun.world b.ranged unit there 1 0 (ap Ok (b.serials_there unit there)),
      )

  pub channels : (es : List Event) → AllHanded es → Channels (past es begun)
  channels es handed =
      let s = past_sound es handed begun sound in
      let p = past es begun in
      record {
        opened_together = s.together;
        open_since = λ further all. joined_since further all p s;
        opens_in_own_slice = own_opening p s;
        sent_by_one = stored_from p s;
        opens_together = opened_by p s;
        opens_with_one = opens_with p s;
        on_one_channel = same_sender p s;
        count_together = s.counts;
        serial_counts = shown_count p s (past_counted es handed begun sound none_opened);
        serial_kept = λ e handed. kept_so p s e handed;
        serial_together = shown_together p s;
        serial_outlasts = outlasts p s;
        addresses_indexed = s.apart.indexed;
        succeeds_together = succeeded_between p s;
      }
