-- TMMR is a word.
-- Assumes nothing.
use Rattle.std.specs.Prelude.{Bool, ℕ, ◌<◌}
use Rattle.std.proofs.Common.{arith}
use Rattle.laws.specs.Laws.Fields.{bit_lt}
use Rattle.master.specs.Reading.{tmmr_of}
use Rattle.master.specs.declared.side.Master.{Master}

pub tmmr_lt : (m : Master) (output : ℕ) (master opened input_ready output_ready : Bool) → output < 32
    → tmmr_of m output master opened input_ready output_ready < 65536
tmmr_lt m output master opened input_ready output_ready fits =
    omega
    (arith, bit_lt master, bit_lt m.secondary, bit_lt m.now_master, bit_lt opened, bit_lt m.auto_address, bit_lt input_ready, bit_lt output_ready)
