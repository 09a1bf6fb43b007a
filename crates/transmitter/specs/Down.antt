-- Document 01, The master section: "if there is none, every transmitter with SND WD and a word gets MST DWN."
-- Assumes nothing.
use Rattle.std.specs.Prelude.{Bool, true, not, ◌&&◌}
use Rattle.laws.specs.Pick.{pick}
use Rattle.silos.specs.Silo.{is_empty}
use Rattle.transmitter.specs.Fields.{with_master_down}
use Rattle.transmitter.specs.Requests.{failed}
use Rattle.transmitter.specs.declared.side.Transmitter.{Transmitter}

-- "with SND WD and a word": also with destination 0 or ERR standing (reading 20)
abbrev pub misses_master : Transmitter → Bool
misses_master t = t.commands.send_word && not (is_empty t.end.silo)

-- it closes nothing at once (reading 28)
abbrev pub master_missed : Transmitter → Transmitter
master_missed t = pick (misses_master t) (failed t (with_master_down t.faults true)) t
