-- The shifting layout leaves every side as it is read, and lays every silo from its first cell on.
-- Assumes nothing.
use Rattle.std.specs.Prelude.{true, List, [], ◌∷◌, ◌++◌, ◌≡◌, refl, eqb, take, drop, replicate}
use Rattle.std.proofs.Common.{append_assoc, append-nil, sym, ap, ◌∙◌, zero-add, suc-add, le_of_suc-le-suc, not-suc-le-zero, eq-or-lt_of_le, eqb-true, lt-ltb, lit≤, length-append, take-take, take_at, take_all, drop_at, drop-drop}
use Rattle.std.proofs.Math.Logic.{⊎_elim}
use Rattle.std.proofs.Math.Path.{subst⁻¹}
use Prim.Native.Nat.{ℕ, zero, suc, ◌+◌, ◌-◌, ◌≤◌, ◌<◌}
use Rattle.std.proofs.Math.Nat.{sub-zero, suc-sub-suc, zero-mod}
use native.Mathlib.Omega.{arith}
use Rattle.std.proofs.lemmas.Bool.{eqb-false}
use Rattle.std.proofs.Math.ListN.{length}
use Rattle.std.proofs.lemmas.List.{length-replicate}
use Rattle.std.proofs.Math.Seq.{take-nil, take-append-add}
use Rattle.cells.specs.Fitted.{Fitted, transmitter_of, receiver_of, master_of, transmitter_cells, receiver_cells, master_cells}
use Rattle.cells.specs.Layout.{count_in, unit_place, transmitter_place, receiver_place, master_place}
use Rattle.cells.specs.Ranges.{in_range}
use Rattle.cells.specs.Laws.FittedLaws.{transmitter_within, receiver_within, master_within}
use Rattle.cells.specs.Laws.FrameLaws.{length_kept, count_kept, holder_kept, index_kept, in_range_kept, window_kept, own_kept, transmitter_address_kept, receiver_address_kept, memory_length_kept}
use Rattle.cells.proofs.Laws.IndexLaws.{with_kept}
use Rattle.cells.specs.Laws.RangeLaws.{fitted}
use Rattle.codec.specs.Ends as E
use Rattle.codec.specs.Masters as M
use Rattle.codec.specs.Masters.{enc_master, dec_master}
use Rattle.codec.specs.Receivers.{enc_receiver, dec_receiver}
use Rattle.codec.specs.Rings.{around, laid_from, silo_of, start_in, length_in, start_for, ring_cell}
use Rattle.codec.specs.Transmitters.{enc_transmitter, dec_transmitter}
use Rattle.codec.specs.Window.{cell, window}
use Rattle.codec.proofs.Laws.EndLaws.{length_laid_silo, silo_laid}
use Rattle.codec.proofs.Laws.MasterLaws.{length_master, dec_enc_master}
use Rattle.codec.proofs.Laws.RingLaws.{cell_start, round_laid}
use Rattle.codec.proofs.Laws.ReceiverLaws.{length_receiver, dec_enc_receiver}
use Rattle.codec.proofs.Laws.TransmitterLaws.{length_transmitter, dec_enc_transmitter}
use Rattle.codec.specs.Laws.WindowLaws.{window_spliced}
use Rattle.laws.specs.Pick.{here, by}
use Rattle.master.specs.declared.side.Master.{Master}
use Rattle.receiver.specs.declared.side.Receiver.{Receiver}
use Rattle.silos.specs.Silo.{Sized, words}
use Rattle.silos.specs.declared.Silo.{Silo}
use Rattle.silos.specs.Laws.Laws.{length_words, cells_are}
use Rattle.transmitter.specs.declared.side.Transmitter.{Transmitter}
use Rattle.layouts.specs.Same.{Same}
use Rattle.layouts.specs.Shifting.{transmitter_shifted, receiver_shifted, master_shifted, sides_shifted, unit_shifted, units_shifted, all_shifted, FromFirst, UnitFromFirst}
use Rattle.layouts.specs.Laws.Sames.{same_all, same_then}

-- ---- a part of a part

swap : (b n : ℕ) (xs : List ℕ) → take n (drop b xs) ≡ drop b (take (b + n) xs)
swap zero n xs = rw zero-add
swap (suc b) n [] = simp take-nil
swap (suc b) n (x ∷ xs) = rw suc-add (swap b n xs)

window_window : (xs : List ℕ) (at n b m p : ℕ) → at + b ≡ p → b + m ≤ n → window (window xs at n) b m ≡ window xs p m
window_window xs at n b m p place h =
    swap b m (take n (drop at xs))
    ∙ ap (drop b) (take-take (b + m) n (drop at xs) h)
    ∙ sym (swap b m (drop at xs))
    ∙ ap (take m) (drop-drop b at xs)
    ∙ ap (λ (i : ℕ). window xs i m) place

-- three lists one behind the other
module _ (a b c : List ℕ) (la : length a ≡ 73) (lb : length b ≡ 73) (lc : length c ≡ 52) where
  long : length (a ++ b ++ c) ≡ 198
  long = simp length-append (omega arith)

  first : window (a ++ b ++ c) 0 73 ≡ a
  first = ap (take 73) (append_assoc a b c) ∙ take_at a (b ++ c) 73 la

  second : window (a ++ b ++ c) 73 73 ≡ b
  second = ap (λ (l : List ℕ). take 73 (drop 73 l)) (append_assoc a b c) ∙ ap (take 73) (drop_at a (b ++ c) 73 la) ∙ take_at b c 73 lb

  third : window (a ++ b ++ c) 146 52 ≡ c
  third =
      let l : length (a ++ b) ≡ 146 = simp length-append (omega arith) in
      ap (take 52) (drop_at (a ++ b) c 146 l) ∙ take_all 52 c (omega arith)

-- ---- one unit

zeros : (n : ℕ) → length (replicate {A = ℕ} n 0) ≡ n
zeros n = length-replicate {A = ℕ} n 0

module _ (cells : List ℕ) (u : ℕ) (f : Fitted cells u) where
  transmitter_long : length (transmitter_shifted cells u) ≡ 73
  transmitter_long = length_transmitter (replicate 73 0) (zeros 73) (transmitter_of cells u) (transmitter_within cells u f)

  receiver_long : length (receiver_shifted cells u) ≡ 73
  receiver_long = length_receiver (replicate 73 0) (zeros 73) (receiver_of cells u) (receiver_within cells u f)

  master_long : length (master_shifted cells u) ≡ 52
  master_long = length_master (replicate 52 0) (zeros 52) (master_of cells u) (master_within cells u f)

  sides_long : length (sides_shifted cells u) ≡ 198
  sides_long = long (transmitter_shifted cells u) (receiver_shifted cells u) (master_shifted cells u) transmitter_long receiver_long master_long

  -- cells whose block is so
  module _ (after : List ℕ) (laid : window after (unit_place u + 4) 198 ≡ sides_shifted cells u) where
    transmitter_laid : transmitter_cells after u ≡ transmitter_shifted cells u
    transmitter_laid =
        sym (window_window after (unit_place u + 4) 198 0 73 (transmitter_place u) (omega arith) (lit≤ tt))
        ∙ ap (λ (l : List ℕ). window l 0 73) laid
        ∙ first (transmitter_shifted cells u) (receiver_shifted cells u) (master_shifted cells u) transmitter_long receiver_long master_long

    receiver_laid : receiver_cells after u ≡ receiver_shifted cells u
    receiver_laid =
        sym (window_window after (unit_place u + 4) 198 73 73 (receiver_place u) (omega arith) (lit≤ tt))
        ∙ ap (λ (l : List ℕ). window l 73 73) laid
        ∙ second (transmitter_shifted cells u) (receiver_shifted cells u) (master_shifted cells u) transmitter_long receiver_long master_long

    master_laid : master_cells after u ≡ master_shifted cells u
    master_laid =
        sym (window_window after (unit_place u + 4) 198 146 52 (master_place u) (omega arith) (lit≤ tt))
        ∙ ap (λ (l : List ℕ). window l 146 52) laid
        ∙ third (transmitter_shifted cells u) (receiver_shifted cells u) (master_shifted cells u) transmitter_long receiver_long master_long

  -- a side of a unit is read as before where that of the unit itself is
  module _ (ok : in_range cells ≡ true) where
    read_so : {A : Type 0} (dec : List ℕ → A) (p n : ℕ) → p + n ≤ 202 → dec (window (unit_shifted cells u) (unit_place u + p) n) ≡ dec (window cells (unit_place u + p) n)
        → (k : ℕ) → k < count_in cells → dec (window cells (unit_place k + p) n) ≡ dec (window (unit_shifted cells u) (unit_place k + p) n)
    read_so dec p n inside here k there =
        by (eqb k u)
        (λ e. subst⁻¹ (λ (i : ℕ). dec (window cells (unit_place i + p) n) ≡ dec (window (unit_shifted cells u) (unit_place i + p) n)) (eqb-true k u e) (sym here))
        (λ e.
        let part : 4 + length (sides_shifted cells u) ≤ 202 = omega (arith, sides_long) in
        sym (ap dec (window_kept cells u f 4 (sides_shifted cells u) part k p n (fitted cells ok k there) inside (λ same. absurd (eqb-false k u e same)))))

    unit_same : Same cells (unit_shifted cells u)
    unit_same =
        let w = sides_shifted cells u in
        let after = unit_shifted cells u in
        let l : length w ≡ 198 = sides_long in
        let part : 4 + length w ≤ 202 = omega arith in
        let own = own_kept cells u f 4 w part (lit≤ tt) in
        let laid : window after (unit_place u + 4) 198 ≡ w = window_spliced cells (unit_place u + 4) w 198 l (omega arith) in
        record {
          ranged = ok;
          other_ranged = in_range_kept cells u f 4 w part ∙ ok;
          room = length_kept cells u f 4 w part;
          count = count_kept cells u f 4 w part;
          index = with_kept cells after (index_kept cells u f 4 w part) (count_kept cells u f 4 w part);
          own = λ k there.
              record {
                sends_as = transmitter_address_kept cells after own k;
                receives_as = receiver_address_kept cells after own k;
                memory = memory_length_kept cells after own k;
              };
          sides =
              record {
                holder = sym (holder_kept cells u f 4 w part);
                transmitter =
                    read_so dec_transmitter 4 73 (lit≤ tt)
                    (ap dec_transmitter (transmitter_laid after laid)
                    ∙ dec_enc_transmitter (replicate 73 0) (zeros 73) (transmitter_of cells u) (transmitter_within cells u f));
                receiver =
                    read_so dec_receiver 77 73 (lit≤ tt)
                    (ap dec_receiver (receiver_laid after laid) ∙ dec_enc_receiver (replicate 73 0) (zeros 73) (receiver_of cells u) (receiver_within cells u f));
                master =
                    read_so dec_master 150 52 (lit≤ tt)
                    (ap dec_master (master_laid after laid) ∙ dec_enc_master (replicate 52 0) (zeros 52) (master_of cells u) (master_within cells u f));
              };
        }

-- ---- every unit

-- the same sides are written the same
sides_same : {cells other : List ℕ} → Same cells other → (k : ℕ) → k < count_in cells → sides_shifted other k ≡ sides_shifted cells k
sides_same {cells} {other} h k there =
    ap (λ (t : Transmitter). enc_transmitter (replicate 73 0) t ++ receiver_shifted other k ++ master_shifted other k) (sym (h.sides.transmitter k there))
    ∙ ap (λ (r : Receiver). transmitter_shifted cells k ++ enc_receiver (replicate 73 0) r ++ master_shifted other k) (sym (h.sides.receiver k there))
    ∙ ap (λ (m : Master). transmitter_shifted cells k ++ receiver_shifted cells k ++ enc_master (replicate 52 0) m) (sym (h.sides.master k there))

module _ (cells : List ℕ) (ok : in_range cells ≡ true) where
  each_same : (n : ℕ) → n ≤ count_in cells → Same cells (units_shifted n cells)
  unfolding units_shifted
  each_same zero h = same_all ok
  each_same (suc n) h =
      let before = each_same n (omega arith) in
      let now = units_shifted n cells in
      let there : n < count_in now = subst⁻¹ (λ (c : ℕ). n < c) before.count h in
      same_then before (unit_same now n (fitted now before.other_ranged n there) before.other_ranged)

  each_laid : (n : ℕ) → n ≤ count_in cells → (k : ℕ) → k < n → window (units_shifted n cells) (unit_place k + 4) 198 ≡ sides_shifted cells k
  unfolding units_shifted
  each_laid zero h k below = absurd (not-suc-le-zero below)
  each_laid (suc n) h k below =
      let before = each_same n (omega arith) in
      let now = units_shifted n cells in
      let ranged = before.other_ranged in
      let there : n < count_in now = subst⁻¹ (λ (c : ℕ). n < c) before.count h in
      let f = fitted now ranged n there in
      let w = sides_shifted now n in
      let l : length w ≡ 198 = sides_long now n f in
      let part : 4 + length w ≤ 202 = omega arith in
      ⊎_elim
      (λ (q : k ≡ n).
      subst⁻¹ (λ (i : ℕ). window (unit_shifted now n) (unit_place i + 4) 198 ≡ sides_shifted cells i) q
      (window_spliced now (unit_place n + 4) w 198 l (omega arith) ∙ sides_same before n h))
      (λ (less : k < n).
      window_kept now n f 4 w part k 4 198 (fitted now ranged k (omega arith)) (lit≤ tt) (λ same. absurd (omega arith)) ∙ each_laid n (omega arith) k less)
      (eq-or-lt_of_le (le_of_suc-le-suc below))

  pub shifted_same : Same cells (all_shifted cells)
  shifted_same = each_same _ (omega arith)

-- ---- a silo written into zeros starts at its first cell, once over its size

-- no word was there before, so the start does not go on
first_start : (size held : ℕ) → 1 ≤ size → start_for size 0 held ≡ 0
first_start size held some =
    let none : start_in size 0 + (length_in size 0 - held) ≡ 0 = rw (zero-mod size) (omega arith) in
    ap (around size) none ∙ sym (here _ (lt-ltb 0 size some) refl)

fewer_zeros : (n size : ℕ) → n ≤ size → drop n (replicate {A = ℕ} size 0) ≡ replicate (size - n) 0
fewer_zeros zero size h = rw sub-zero
fewer_zeros (suc n) zero h = absurd (not-suc-le-zero h)
fewer_zeros (suc n) (suc size) h = rw suc-sub-suc (fewer_zeros n size (le_of_suc-le-suc h))

first_zeros : (n m : ℕ) → n ≤ m → take n (replicate {A = ℕ} m 0) ≡ replicate n 0
first_zeros zero m h = refl
first_zeros (suc n) zero h = absurd (not-suc-le-zero h)
first_zeros (suc n) (suc m) h = ap (λ (l : List ℕ). 0 ∷ l) (first_zeros n m (le_of_suc-le-suc h))

module _ (size : ℕ) (some : 1 ≤ size) (most : size ≤ 64) (silo : Silo) (h : Sized size silo) where
  laid_first : laid_from 0 (words silo) (replicate size 0) ≡ words silo ++ replicate (size - silo.held) 0
  laid_first =
      let ring = replicate {A = ℕ} size 0 in
      let l : length ring ≡ size = zeros size in
      let held : length (words silo) ≡ silo.held = length_words size most silo h in
      let there : 0 < length ring = omega arith in
      let room : length (words silo) ≤ length ring = omega (arith, h.most) in
      sym (append-nil (laid_from 0 (words silo) ring))
      ∙ round_laid ring 0 there (words silo) room
      ∙ ap (λ (r : List ℕ). words silo ++ drop (length (words silo)) r) (append-nil ring)
      ∙ ap (λ (n : ℕ). words silo ++ drop n ring) held
      ∙ ap (λ (z : List ℕ). words silo ++ z) (fewer_zeros silo.held size h.most)

  cells_first : words silo ++ replicate (size - silo.held) 0 ≡ take size silo.cells
  cells_first =
      let ws = words silo in
      let rest = replicate {A = ℕ} (64 - silo.held) 0 in
      let held : length ws ≡ silo.held = length_words size most silo h in
      let all : length ws + (size - silo.held) ≡ size = omega (arith, h.most) in
      sym
      (ap (take size) (cells_are size most silo h)
      ∙ ap (λ (n : ℕ). take n (ws ++ rest)) (sym all)
      ∙ take-append-add ws rest (size - silo.held)
      ∙ ap (λ (z : List ℕ). ws ++ z) (first_zeros (size - silo.held) (64 - silo.held) (omega arith)))

  written_first : let start = start_for size 0 silo.held in FromFirst size (ring_cell start silo.held) (take size (laid_from start (words silo) (replicate size 0)))
  written_first =
      let place = ring_cell 0 silo.held in
      let ring = laid_from 0 (words silo) (replicate size 0) in
      let l : length ring ≡ size = length_laid_silo size some most silo h 0 some (replicate size 0) (zeros size) in
      let all : take size ring ≡ ring = take_all size ring (omega arith) in
      let read : silo_of size place (take size ring) ≡ silo =
      ap (silo_of size place) all ∙ silo_laid size some most silo h 0 some (replicate size 0) (zeros size) in
      subst⁻¹ (λ (start : ℕ). FromFirst size (ring_cell start silo.held) (take size (laid_from start (words silo) (replicate size 0))))
      (first_start size silo.held some)
      (record {
        start = cell_start size 0 silo.held some most;
        laid = all ∙ laid_first ∙ ap (λ (s : Silo). words s ++ replicate (size - s.held) 0) (sym read);
        cells = all ∙ laid_first ∙ cells_first ∙ ap (λ (s : Silo). take size s.cells) (sym read);
      })

module _ (cells : List ℕ) (ok : in_range cells ≡ true) (unit : ℕ) (there : unit < count_in cells) where
  -- so the layout deserves its name
  pub shifted_first : UnitFromFirst (all_shifted cells) unit
  shifted_first =
      let f = fitted cells ok unit there in
      let laid : window (all_shifted cells) (unit_place unit + 4) 198 ≡ sides_shifted cells unit = each_laid cells ok _ (omega arith) unit (omega arith) in
      record {
        transmitter =
            subst⁻¹ (λ (w : List ℕ). FromFirst 64 (cell w E.RING) (window w E.SILO 64)) (transmitter_laid cells unit f (all_shifted cells) laid)
            (written_first 64 (lit≤ tt) (lit≤ tt) (transmitter_of cells unit).end.silo (transmitter_within cells unit f).end.silo);
        receiver =
            subst⁻¹ (λ (w : List ℕ). FromFirst 64 (cell w E.RING) (window w E.SILO 64)) (receiver_laid cells unit f (all_shifted cells) laid)
            (written_first 64 (lit≤ tt) (lit≤ tt) (receiver_of cells unit).end.silo (receiver_within cells unit f).end.silo);
        master =
            subst⁻¹ (λ (w : List ℕ). FromFirst 50 (cell w M.RING) (window w M.ADDRESSES 50)) (master_laid cells unit f (all_shifted cells) laid)
            (written_first 50 (lit≤ tt) (lit≤ tt) (master_of cells unit).addresses (master_within cells unit f).silo);
      }
