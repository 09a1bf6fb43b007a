-- The four stores that every call is made of, each after what came before it: one side, or the holder, is the one stored; all else is
-- as it was; and the cells are in range. A side that stays as it was need not be stored.
-- Assumes nothing.
use Rattle.std.specs.Prelude.{Bool, true, false, List, [], ◌∷◌, ◌≡◌, refl, ℕ, ◌+◌, ◌<◌, ◌≤◌, eqb, length}
use Rattle.std.proofs.Common.{sym, ◌∙◌, arith, eqb-true, lit≤}
use Rattle.std.proofs.Math.Path.{subst⁻¹}
use Rattle.std.proofs.lemmas.Bool.{eqb-false}
use Rattle.cells.specs.Fitted.{Fitted, transmitter_of, receiver_of, master_of, transmitter_cells, receiver_cells, master_cells, put_transmitter, put_receiver, put_master, put_next}
use Rattle.cells.specs.Laws.FrameLaws.{cell_kept, count_kept, holder_kept, index_kept, length_kept, own_kept, in_range_kept}
use Rattle.cells.specs.Laws.HolderLaws.{set_holder, cell_after_holder, holder_put, length_after_holder, count_after_holder, index_after_holder, own_after_holder, holder_in_range, transmitter_after_holder, receiver_after_holder, master_after_holder}
use Rattle.cells.specs.Laws.RangeLaws.{in_range_says}
use Rattle.cells.specs.Layout.{count_in, put_holder, unit_place}
use Rattle.cells.specs.Laws.PutLaws as Put
use Rattle.codec.specs.Masters.{enc_master, enc_next}
use Rattle.codec.specs.Receivers.{enc_receiver}
use Rattle.codec.specs.Transmitters.{enc_transmitter}
use Rattle.codec.specs.Window.{splice}
use Rattle.laws.specs.Pick.{pick, either}
use Rattle.master.specs.Side as M
use Rattle.master.specs.declared.side.Master.{Master}
use Rattle.receiver.specs.Side as R
use Rattle.receiver.specs.declared.side.Receiver.{Receiver}
use Rattle.transmitter.specs.Side as T
use Rattle.transmitter.specs.declared.side.Transmitter.{Transmitter}
use Rattle.frames.specs.Laws.Kept.{Kept, kept_then}
use Rattle.frames.specs.Laws.Leaves.{Holds, Leaves, OthersStay, Agree, agrees, still_fitted}
use Rattle.frames.specs.Laws.Sides.{Sides, replaced, replaced_same, with_holder, with_transmitter, with_receiver, with_master}

-- of a family, one stored at u, and the others as they were
stored : {A : Type 0} (now f : ℕ → A) (u : ℕ) (a : A) → now u ≡ a → (k : ℕ) → ((k ≡ u → ⊥) → now k ≡ f k) → now k ≡ replaced f u a k
stored {A} now f u a here k other =
    either (λ (x : A). now k ≡ x) (eqb k u) (λ e. subst⁻¹ (λ (n : ℕ). now n ≡ a) (eqb-true k u e) here) (λ e. other (eqb-false k u e))

module _ {touched : ℕ → Type 0} {cells middle : List ℕ} {s : Sides} (l : Leaves touched cells middle s) where
  module _ (u : ℕ) (fitted : u < count_in cells) where
    here : Fitted middle u
    here = still_fitted l u fitted

    -- a side is no cell of the unit's own
    side_kept : (o : ℕ) (w : List ℕ) → 4 ≤ o → o + length w ≤ 202 → Kept cells (splice middle (unit_place u + o) w)
    side_kept o w side part =
        kept_then cells middle (splice middle (unit_place u + o) w) l.kept
        (record {
          room = length_kept middle u here o w part;
          count = count_kept middle u here o w part;
          index = index_kept middle u here o w part;
          own = own_kept middle u here o w part side;
        })

    -- and no cell of a unit that is not touched
    others_stay : touched u → (o : ℕ) (w : List ℕ) → o + length w ≤ 202 → OthersStay touched cells (splice middle (unit_place u + o) w)
    others_stay here_too o w part k there apart j h =
        cell_kept middle u here o w part k j h (λ e. absurd (apart (subst⁻¹ touched e here_too))) ∙ l.others k there apart j h

    -- of the cells with one part written, the sides are left to say
    side_stored : touched u → (o : ℕ) (w : List ℕ) (after : Sides) → 4 ≤ o → o + length w ≤ 202
        → Holds (splice middle (unit_place u + o) w) (count_in cells) after → Leaves touched cells (splice middle (unit_place u + o) w) after
    side_stored here_too o w after side part holds =
        record { ranged = in_range_kept middle u here o w part ∙ l.ranged; kept = side_kept o w side part; holds = holds; others = others_stay here_too o w part }

    pub transmitter_stored : touched u → (t : Transmitter) → T.Within t → Leaves touched cells (put_transmitter middle u t) (with_transmitter s u t)
    transmitter_stored here_too t h =
        let part = Put.transmitter_part middle u here t h in
        side_stored here_too 4 (enc_transmitter (transmitter_cells middle u) t) _ (lit≤ tt) part
        (record {
          holder = holder_kept middle u here 4 (enc_transmitter (transmitter_cells middle u) t) part ∙ l.holds.holder;
          transmitter = λ k there.
              stored (transmitter_of (put_transmitter middle u t)) s.transmitter u t (Put.transmitter_put middle u here t h) k
              (λ other. Put.transmitter_after_transmitter middle u here t h k (still_fitted l k there) other ∙ l.holds.transmitter k there);
          receiver = λ k there. Put.receiver_after_transmitter middle u here t h k (still_fitted l k there) ∙ l.holds.receiver k there;
          master = λ k there. Put.master_after_transmitter middle u here t h k (still_fitted l k there) ∙ l.holds.master k there;
        })

    pub receiver_stored : touched u → (r : Receiver) → R.Within r → Leaves touched cells (put_receiver middle u r) (with_receiver s u r)
    receiver_stored here_too r h =
        let part = Put.receiver_part middle u here r h in
        side_stored here_too 77 (enc_receiver (receiver_cells middle u) r) _ (lit≤ tt) part
        (record {
          holder = holder_kept middle u here 77 (enc_receiver (receiver_cells middle u) r) part ∙ l.holds.holder;
          transmitter = λ k there. Put.transmitter_after_receiver middle u here r h k (still_fitted l k there) ∙ l.holds.transmitter k there;
          receiver = λ k there.
              stored (receiver_of (put_receiver middle u r)) s.receiver u r (Put.receiver_put middle u here r h) k
              (λ other. Put.receiver_after_receiver middle u here r h k (still_fitted l k there) other ∙ l.holds.receiver k there);
          master = λ k there. Put.master_after_receiver middle u here r h k (still_fitted l k there) ∙ l.holds.master k there;
        })

    pub master_stored : touched u → (m : Master) → M.Within m → Leaves touched cells (put_master middle u m) (with_master s u m)
    master_stored here_too m h =
        let part = Put.master_part middle u here m h in
        side_stored here_too 150 (enc_master (master_cells middle u) m) _ (lit≤ tt) part
        (record {
          holder = holder_kept middle u here 150 (enc_master (master_cells middle u) m) part ∙ l.holds.holder;
          transmitter = λ k there. Put.transmitter_after_master middle u here m h k (still_fitted l k there) ∙ l.holds.transmitter k there;
          receiver = λ k there. Put.receiver_after_master middle u here m h k (still_fitted l k there) ∙ l.holds.receiver k there;
          master = λ k there.
              stored (master_of (put_master middle u m)) s.master u m (Put.master_put middle u here m h) k
              (λ other. Put.master_after_master middle u here m h k (still_fitted l k there) other ∙ l.holds.master k there);
        })

    -- a section gone on by a slice
    pub next_stored : touched u → (m : Master) → M.Within m → Leaves touched cells (put_next middle u m) (with_master s u m)
    next_stored here_too m h =
        let part = Put.next_part middle u here m h in
        side_stored here_too 150 (enc_next (master_cells middle u) m) _ (lit≤ tt) part
        (record {
          holder = holder_kept middle u here 150 (enc_next (master_cells middle u) m) part ∙ l.holds.holder;
          transmitter = λ k there. Put.transmitter_after_next middle u here m h k (still_fitted l k there) ∙ l.holds.transmitter k there;
          receiver = λ k there. Put.receiver_after_next middle u here m h k (still_fitted l k there) ∙ l.holds.receiver k there;
          master = λ k there.
              stored (master_of (put_next middle u m)) s.master u m (Put.next_put middle u here m h) k
              (λ other. Put.master_after_next middle u here m h k (still_fitted l k there) other ∙ l.holds.master k there);
        })

    -- ---- a side that is as it was, not stored

    pub transmitter_left : (t : Transmitter) → t ≡ s.transmitter u → Leaves touched cells middle (with_transmitter s u t)
    transmitter_left t e =
        agrees l (record { holder = refl; transmitter = λ k there. sym (replaced_same s.transmitter u t k (λ q. e)); receiver = λ k there. refl; master = λ k there. refl })

    pub receiver_left : (r : Receiver) → r ≡ s.receiver u → Leaves touched cells middle (with_receiver s u r)
    receiver_left r e =
        agrees l (record { holder = refl; transmitter = λ k there. refl; receiver = λ k there. sym (replaced_same s.receiver u r k (λ q. e)); master = λ k there. refl })

    pub master_left : (m : Master) → m ≡ s.master u → Leaves touched cells middle (with_master s u m)
    master_left m e =
        agrees l (record { holder = refl; transmitter = λ k there. refl; receiver = λ k there. refl; master = λ k there. sym (replaced_same s.master u m k (λ q. e)) })

  -- who is master: nobody, or a fitted unit
  pub holder_stored : (holder : ℕ) → holder ≤ count_in cells → Leaves touched cells (put_holder middle holder) (with_holder s holder)
  holder_stored holder h =
      let header = (in_range_says middle l.ranged).header in
      subst⁻¹ (λ (after : List ℕ). Leaves touched cells after (with_holder s holder)) (set_holder middle header holder)
      (record {
        ranged = holder_in_range middle header holder l.ranged (subst⁻¹ (λ (n : ℕ). holder ≤ n) l.kept.count h);
        kept =
            kept_then cells middle (splice middle 1 (holder ∷ [])) l.kept
            (record {
              room = length_after_holder middle header holder;
              count = count_after_holder middle header holder;
              index = index_after_holder middle header holder;
              own = own_after_holder middle header holder;
            });
        holds =
            record {
              holder = holder_put middle header holder;
              transmitter = λ k there. transmitter_after_holder middle header holder k (still_fitted l k there) ∙ l.holds.transmitter k there;
              receiver = λ k there. receiver_after_holder middle header holder k (still_fitted l k there) ∙ l.holds.receiver k there;
              master = λ k there. master_after_holder middle header holder k (still_fitted l k there) ∙ l.holds.master k there;
            };
        others = λ k there apart j h. cell_after_holder middle header holder (unit_place k + j) (omega arith) ∙ l.others k there apart j h;
      })
