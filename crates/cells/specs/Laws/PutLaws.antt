-- One side put back: it is read as it was put, and every other side of every fitted unit as it was before.
-- Assumes nothing.
use Rattle.std.specs.Prelude.{List, ◌⊎◌, ◌≡◌, ℕ, ◌+◌, ◌≤◌, length}
use Rattle.std.proofs.Common.{inl, inr, ap, arith, lit≤}
use Rattle.codec.specs.Masters.{enc_master, enc_next, dec_master}
use Rattle.codec.specs.Receivers.{enc_receiver, dec_receiver}
use Rattle.codec.specs.Transmitters.{enc_transmitter, dec_transmitter}
use Rattle.codec.specs.Window.{splice}
use Rattle.codec.proofs.Laws.MasterLaws.{length_master, length_next, master_stored, next_stored}
use Rattle.codec.proofs.Laws.ReceiverLaws.{length_receiver, receiver_stored}
use Rattle.codec.proofs.Laws.TransmitterLaws.{length_transmitter, transmitter_stored}
use Rattle.codec.specs.Laws.WindowLaws.{length_window}
use Rattle.master.specs.Side as M
use Rattle.master.specs.declared.side.Master.{Master}
use Rattle.receiver.specs.Side as R
use Rattle.receiver.specs.declared.side.Receiver.{Receiver}
use Rattle.transmitter.specs.Side as T
use Rattle.transmitter.specs.declared.side.Transmitter.{Transmitter}
use Rattle.cells.specs.Fitted.{Fitted, transmitter_of, receiver_of, master_of, transmitter_cells, receiver_cells, master_cells, put_transmitter, put_receiver, put_master, put_next}
use Rattle.cells.specs.Layout.{unit_place, transmitter_place, receiver_place, master_place}
use Rattle.cells.specs.Laws.FrameLaws.{window_kept}

-- ---- each side is a part of its unit's block

module _ (cells : List ℕ) (u : ℕ) (f : Fitted cells u) where
  pub transmitter_long : (t : Transmitter) → T.Within t → length (enc_transmitter (transmitter_cells cells u) t) ≡ 73
  transmitter_long t h = length_transmitter (transmitter_cells cells u) (length_window cells (transmitter_place u) 73 (omega arith)) t h

  pub receiver_long : (r : Receiver) → R.Within r → length (enc_receiver (receiver_cells cells u) r) ≡ 73
  receiver_long r h = length_receiver (receiver_cells cells u) (length_window cells (receiver_place u) 73 (omega arith)) r h

  pub master_long : (m : Master) → M.Within m → length (enc_master (master_cells cells u) m) ≡ 52
  master_long m h = length_master (master_cells cells u) (length_window cells (master_place u) 52 (omega arith)) m h

  pub next_long : (m : Master) → M.Within m → length (enc_next (master_cells cells u) m) ≡ 52
  next_long m h = length_next (master_cells cells u) (length_window cells (master_place u) 52 (omega arith)) m h

  pub transmitter_part : (t : Transmitter) → T.Within t → 4 + length (enc_transmitter (transmitter_cells cells u) t) ≤ 202
  transmitter_part t h = omega (arith, transmitter_long t h)

  pub receiver_part : (r : Receiver) → R.Within r → 77 + length (enc_receiver (receiver_cells cells u) r) ≤ 202
  receiver_part r h = omega (arith, receiver_long r h)

  pub master_part : (m : Master) → M.Within m → 150 + length (enc_master (master_cells cells u) m) ≤ 202
  master_part m h = omega (arith, master_long m h)

  pub next_part : (m : Master) → M.Within m → 150 + length (enc_next (master_cells cells u) m) ≤ 202
  next_part m h = omega (arith, next_long m h)

  -- ---- a part that lies apart leaves each side of a unit

  module _ (o : ℕ) (w : List ℕ) (part : o + length w ≤ 202) (k : ℕ) (there : Fitted cells k) where
    transmitter_kept : (k ≡ u → (77 ≤ o) ⊎ (o + length w ≤ 4)) → transmitter_of (splice cells (unit_place u + o) w) k ≡ transmitter_of cells k
    transmitter_kept apart = ap dec_transmitter (window_kept cells u f o w part k 4 73 there (lit≤ tt) apart)

    receiver_kept : (k ≡ u → (150 ≤ o) ⊎ (o + length w ≤ 77)) → receiver_of (splice cells (unit_place u + o) w) k ≡ receiver_of cells k
    receiver_kept apart = ap dec_receiver (window_kept cells u f o w part k 77 73 there (lit≤ tt) apart)

    master_kept : (k ≡ u → (202 ≤ o) ⊎ (o + length w ≤ 150)) → master_of (splice cells (unit_place u + o) w) k ≡ master_of cells k
    master_kept apart = ap dec_master (window_kept cells u f o w part k 150 52 there (lit≤ tt) apart)

  -- ---- a side of the unit put back

  module _ (t : Transmitter) (h : T.Within t) where
    pub transmitter_put : transmitter_of (put_transmitter cells u t) u ≡ t
    transmitter_put = transmitter_stored cells (transmitter_place u) (omega arith) t h

    module _ (k : ℕ) (there : Fitted cells k) where
      pub transmitter_after_transmitter : (k ≡ u → ⊥) → transmitter_of (put_transmitter cells u t) k ≡ transmitter_of cells k
      transmitter_after_transmitter other = transmitter_kept 4 (enc_transmitter (transmitter_cells cells u) t) (transmitter_part t h) k there (λ e. absurd (other e))

      pub receiver_after_transmitter : receiver_of (put_transmitter cells u t) k ≡ receiver_of cells k
      receiver_after_transmitter = receiver_kept 4 (enc_transmitter (transmitter_cells cells u) t) (transmitter_part t h) k there (λ e. inr (omega (arith, transmitter_long t h)))

      pub master_after_transmitter : master_of (put_transmitter cells u t) k ≡ master_of cells k
      master_after_transmitter = master_kept 4 (enc_transmitter (transmitter_cells cells u) t) (transmitter_part t h) k there (λ e. inr (omega (arith, transmitter_long t h)))

  module _ (r : Receiver) (h : R.Within r) where
    pub receiver_put : receiver_of (put_receiver cells u r) u ≡ r
    receiver_put = receiver_stored cells (receiver_place u) (omega arith) r h

    module _ (k : ℕ) (there : Fitted cells k) where
      pub transmitter_after_receiver : transmitter_of (put_receiver cells u r) k ≡ transmitter_of cells k
      transmitter_after_receiver = transmitter_kept 77 (enc_receiver (receiver_cells cells u) r) (receiver_part r h) k there (λ e. inl (lit≤ tt))

      pub receiver_after_receiver : (k ≡ u → ⊥) → receiver_of (put_receiver cells u r) k ≡ receiver_of cells k
      receiver_after_receiver other = receiver_kept 77 (enc_receiver (receiver_cells cells u) r) (receiver_part r h) k there (λ e. absurd (other e))

      pub master_after_receiver : master_of (put_receiver cells u r) k ≡ master_of cells k
      master_after_receiver = master_kept 77 (enc_receiver (receiver_cells cells u) r) (receiver_part r h) k there (λ e. inr (omega (arith, receiver_long r h)))

  module _ (m : Master) (h : M.Within m) where
    pub master_put : master_of (put_master cells u m) u ≡ m
    master_put = master_stored cells (master_place u) (omega arith) m h

    module _ (k : ℕ) (there : Fitted cells k) where
      pub transmitter_after_master : transmitter_of (put_master cells u m) k ≡ transmitter_of cells k
      transmitter_after_master = transmitter_kept 150 (enc_master (master_cells cells u) m) (master_part m h) k there (λ e. inl (lit≤ tt))

      pub receiver_after_master : receiver_of (put_master cells u m) k ≡ receiver_of cells k
      receiver_after_master = receiver_kept 150 (enc_master (master_cells cells u) m) (master_part m h) k there (λ e. inl (lit≤ tt))

      pub master_after_master : (k ≡ u → ⊥) → master_of (put_master cells u m) k ≡ master_of cells k
      master_after_master other = master_kept 150 (enc_master (master_cells cells u) m) (master_part m h) k there (λ e. absurd (other e))

    -- ---- gone on by a slice

    pub next_put : master_of (put_next cells u m) u ≡ m
    next_put = next_stored cells (master_place u) (omega arith) m h

    module _ (k : ℕ) (there : Fitted cells k) where
      pub transmitter_after_next : transmitter_of (put_next cells u m) k ≡ transmitter_of cells k
      transmitter_after_next = transmitter_kept 150 (enc_next (master_cells cells u) m) (next_part m h) k there (λ e. inl (lit≤ tt))

      pub receiver_after_next : receiver_of (put_next cells u m) k ≡ receiver_of cells k
      receiver_after_next = receiver_kept 150 (enc_next (master_cells cells u) m) (next_part m h) k there (λ e. inl (lit≤ tt))

      pub master_after_next : (k ≡ u → ⊥) → master_of (put_next cells u m) k ≡ master_of cells k
      master_after_next other = master_kept 150 (enc_next (master_cells cells u) m) (next_part m h) k there (λ e. absurd (other e))
