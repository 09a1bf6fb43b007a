-- One unit of a good set-up stored: each side is in its initial state, and the units before it are as they were.
-- Assumes nothing.
use Rattle.std.specs.Prelude.{List, ◌≡◌, replicate}
use Rattle.std.proofs.Math.Path.{ap}
use Rattle.std.proofs.Common.{◌∙◌, arith, lit<}
use Prim.Native.Nat.{ℕ, ◌+◌, ◌≤◌, ◌<◌, min}
use Rattle.std.proofs.Math.ListN.{length}
use Rattle.cells.specs.Laws.FitLaws.{transmitter_address_stored, receiver_address_stored, memory_length_stored}
use Rattle.cells.specs.Fitted.{transmitter_of, receiver_of, master_of, blank, unit_fitted}
use Rattle.cells.specs.Layout.{unit_place, transmitter_place, receiver_place, master_place, own_cell, transmitter_address, receiver_address, memory_length}
use Rattle.codec.proofs.Laws.MasterLaws.{master_stored}
use Rattle.codec.specs.Masters.{dec_master}
use Rattle.codec.proofs.Laws.ReceiverLaws.{receiver_stored}
use Rattle.codec.specs.Receivers.{dec_receiver}
use Rattle.codec.proofs.Laws.TransmitterLaws.{transmitter_stored}
use Rattle.codec.specs.Transmitters.{dec_transmitter}
use Rattle.codec.specs.Window.{window, splice}
use Rattle.codec.specs.Laws.WindowLaws.{window_before, window_after, cell_before, cell_past}
use Rattle.fitting.specs.Fit.{unit_of}
use Rattle.fitting.specs.SetUp.{number_of}
use Rattle.fitting.specs.Laws.SetUpLaws.{UnitGood}
use Rattle.master.specs.Side as M
use Rattle.receiver.specs.Laws.Keeps as RK
use Rattle.receiver.specs.Side as R
use Rattle.transmitter.specs.Laws.Keeps as TK
use Rattle.transmitter.specs.Side as T
use Rattle.frames.specs.Laws.Fits.{own_put, transmitter_put, receiver_put, sender, hearer, section, blank_fits, own_fits, transmitter_long, transmitter_fits, receiver_long, receiver_fits, master_long, master_fits, master_within}

pub record Started (setup : List ℕ) (unit : ℕ) (cells : List ℕ) : Type 0 where
  pub transmitter : transmitter_of cells unit ≡ T.initial 0
  pub receiver : receiver_of cells unit ≡ R.initial 0
  pub master : master_of cells unit ≡ M.initial (number_of setup unit 2)
  pub transmitter_at : transmitter_address cells unit ≡ number_of setup unit 0
  pub receiver_at : receiver_address cells unit ≡ number_of setup unit 1
  pub memory : memory_length cells unit ≡ number_of setup unit 3

-- ---- a unit's block is as it was after a splice that is apart from it

pub record SameBlock (unit : ℕ) (cells after : List ℕ) : Type 0 where
  pub part : (p n : ℕ) → p + n ≤ 202 → window after (unit_place unit + p) n ≡ window cells (unit_place unit + p) n
  pub own : (j : ℕ) → j < 4 → own_cell after j unit ≡ own_cell cells j unit

module _ (cells : List ℕ) (at : ℕ) (w : List ℕ) (fits : at + length w ≤ length cells) (unit : ℕ) where
  block_before : unit_place unit + 202 ≤ at → SameBlock unit cells (splice cells at w)
  block_before h =
      record {
        part = λ p n inside. window_before cells at w (unit_place unit + p) n (omega arith) (omega arith);
        own = λ j inside. cell_before cells at w fits (unit_place unit + j) (omega arith);
      }

  pub block_past : at + length w ≤ unit_place unit → unit_place unit + 202 ≤ length cells → SameBlock unit cells (splice cells at w)
  block_past h room =
      record {
        part = λ p n inside. window_after cells at w (unit_place unit + p) (omega arith) (omega arith) n;
        own = λ j inside. cell_past cells at w fits (unit_place unit + j) (omega arith);
      }

pub same_then : {unit : ℕ} {cells middle after : List ℕ} → SameBlock unit cells middle → SameBlock unit middle after → SameBlock unit cells after
same_then a b = record { part = λ p n h. b.part p n h ∙ a.part p n h; own = λ j h. b.own j h ∙ a.own j h }

pub started_again : {setup cells after : List ℕ} {unit : ℕ} → SameBlock unit cells after → Started setup unit cells → Started setup unit after
started_again {setup} {cells} {after} {unit} same s =
    let own0 = same.own 0 (omega arith) in
    let own1 = same.own 1 (omega arith) in
    let own2 = same.own 2 (omega arith) in
    let own3 = same.own 3 (omega arith) in
    record {
      transmitter = ap dec_transmitter (same.part 4 73 (omega arith)) ∙ s.transmitter;
      receiver = ap dec_receiver (same.part 77 73 (omega arith)) ∙ s.receiver;
      master = ap dec_master (same.part 150 52 (omega arith)) ∙ s.master;
      transmitter_at = ap (λ (n : ℕ). min 30 n + 1) own0 ∙ s.transmitter_at;
      receiver_at = ap (λ (n : ℕ). min 30 n + 1) own1 ∙ s.receiver_at;
      memory = rw (own2, own3) s.memory;
    }

-- ---- one unit stored: it is started, and those before it are as they were

module _ (setup cells : List ℕ) (unit : ℕ) (good : UnitGood setup unit) (room : unit_place unit + 202 ≤ length cells) where
  pub before_own : (k : ℕ) → unit_place k + 202 ≤ unit_place unit → SameBlock k cells (unit_of setup cells unit)
  unfolding unit_fitted
  before_own k h =
      same_then
      (same_then
      (same_then
      (same_then (block_before cells (unit_place unit) (replicate 202 0) (blank_fits setup cells unit good room) k h)
      (block_before (blank cells unit) (unit_place unit) _ (own_fits setup cells unit good room) k h))
      (block_before (own_put setup cells unit) (transmitter_place unit) (sender setup cells unit) (transmitter_fits setup cells unit good room) k (omega arith)))
      (block_before (transmitter_put setup cells unit) (receiver_place unit) (hearer setup cells unit) (receiver_fits setup cells unit good room) k (omega arith)))
      (block_before (receiver_put setup cells unit) (master_place unit) (section setup cells unit) (master_fits setup cells unit good room) k (omega arith))

  pub started : Started setup unit (unit_of setup cells unit)
  unfolding unit_fitted
  started =
      let t = sender setup cells unit in
      let r = hearer setup cells unit in
      let m = section setup cells unit in
      let tf = transmitter_fits setup cells unit good room in
      let rf = receiver_fits setup cells unit good room in
      let mf = master_fits setup cells unit good room in
      let tl : length t ≡ 73 = transmitter_long setup cells unit good room in
      let rl : length r ≡ 73 = receiver_long setup cells unit good room in
      let ml : length m ≡ 52 = master_long setup cells unit good room in
      let own : (j : ℕ) → j < 4 → own_cell (unit_of setup cells unit) j unit ≡ own_cell (own_put setup cells unit) j unit =
      λ j h.
      cell_before (receiver_put setup cells unit) (master_place unit) m mf (unit_place unit + j) (omega arith)
      ∙ cell_before (transmitter_put setup cells unit) (receiver_place unit) r rf (unit_place unit + j) (omega arith)
      ∙ cell_before (own_put setup cells unit) (transmitter_place unit) t tf (unit_place unit + j) (omega arith) in
      let a = number_of setup unit 0 in
      let c = number_of setup unit 1 in
      let d = number_of setup unit 3 in
      let of = own_fits setup cells unit good room in
      record {
        transmitter =
            ap dec_transmitter
            (window_before (receiver_put setup cells unit) (master_place unit) m (transmitter_place unit) 73 (omega arith) (omega arith)
            ∙ window_before (transmitter_put setup cells unit) (receiver_place unit) r (transmitter_place unit) 73 (omega arith) (omega arith))
            ∙ transmitter_stored (own_put setup cells unit) (transmitter_place unit) (omega arith) (T.initial 0) (TK.within_initial (lit< tt));
        receiver =
            ap dec_receiver (window_before (receiver_put setup cells unit) (master_place unit) m (receiver_place unit) 73 (omega arith) (omega arith))
            ∙ receiver_stored (transmitter_put setup cells unit) (receiver_place unit) (omega arith) (R.initial 0) (RK.within_initial (lit< tt));
        master = master_stored (receiver_put setup cells unit) (master_place unit) (omega arith) (M.initial (number_of setup unit 2)) (master_within setup cells unit good room);
        transmitter_at = ap (λ (n : ℕ). min 30 n + 1) (own 0 (omega arith)) ∙ transmitter_address_stored a c d (blank cells unit) unit of good.transmitter.0 good.transmitter.1;
        receiver_at = ap (λ (n : ℕ). min 30 n + 1) (own 1 (omega arith)) ∙ receiver_address_stored a c d (blank cells unit) unit of good.receiver.0 good.receiver.1;
        memory = rw (own 2 (omega arith), own 3 (omega arith)) (memory_length_stored a c d (blank cells unit) unit of good.memory.0 good.memory.1);
      }
