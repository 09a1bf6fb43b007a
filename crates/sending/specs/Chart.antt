-- Document 01, One slice: "An open T follows a four-by-four chart, A down and B across".
-- Assumes nothing.
use Rattle.std.specs.Prelude.{◌&&◌, ◌||◌, ℕ, eqb}
use Rattle.laws.specs.Pick.{pick}
use Rattle.sending.specs.declared.chart.Entry.{Entry}

-- "row 00 closes, B setting nothing; in other rows columns 00 and 10 close with TXM ERR; 11 with 11 closes with success; rest stay"
abbrev pub chart_of : ℕ → ℕ → Entry
chart_of a b =
    pick (eqb a 0) Entry.Close
    (pick (eqb b 0 || eqb b 2) Entry.CloseWithError (pick (eqb a 3 && eqb b 3) Entry.CloseWithSuccess Entry.Stay))
