-- Document 01, The link: the rules of a set-up, which has four numbers for each unit.
-- Assumes nothing.
use Rattle.std.specs.Prelude.{Bool, true, false, not, ◌&&◌, ◌||◌, List, ℕ, zero, suc, ◌+◌, ◌*◌, ◌/◌, ◌%◌, leb, eqb, length, get_or}
use Rattle.laws.specs.Pick.{pick}

-- a unit's four numbers: transmitter address, receiver address, counter switch, memory length in words
abbrev pub SENDS_AS : ℕ
SENDS_AS = 0

abbrev pub RECEIVES_AS : ℕ
RECEIVES_AS = 1

abbrev pub SWITCH : ℕ
SWITCH = 2

abbrev pub MEMORY : ℕ
MEMORY = 3

-- its number k
abbrev pub number_of : List ℕ → ℕ → ℕ → ℕ
number_of setup unit k = get_or setup (unit * 4 + k) 0

abbrev pub between : ℕ → ℕ → ℕ → Bool
between low x high = leb low x && leb x high

-- "Transmitter addresses are 1 to 31, ..; receivers' likewise; counter switches 2 to 31"; "a host memory of 1 to 131,072 words"
abbrev pub unit_good : List ℕ → ℕ → Bool
unit_good setup unit =
    between 1 (number_of setup unit SENDS_AS) 31
    && between 1 (number_of setup unit RECEIVES_AS) 31
    && between 2 (number_of setup unit SWITCH) 31
    && between 1 (number_of setup unit MEMORY) 131072

-- one of the first n units has the number k
unfoldable pub taken_by : List ℕ → ℕ → ℕ → ℕ → Bool
taken_by setup k wanted zero = false
taken_by setup k wanted (suc n) = taken_by setup k wanted n || eqb (number_of setup n k) wanted

-- "no two equal": each unit's addresses are none of those before it
abbrev pub again : List ℕ → ℕ → ℕ → Bool
again setup k unit = taken_by setup k (number_of setup unit k) unit

unfoldable pub units_good : List ℕ → ℕ → Bool
units_good setup zero = true
units_good setup (suc n) = units_good setup n && unit_good setup n && not (again setup SENDS_AS n) && not (again setup RECEIVES_AS n)

-- how many units it names
abbrev pub count_of : List ℕ → ℕ
count_of setup = length setup / 4

-- "1 to 16 units on one bus", each with four numbers; a set-up of 0, or of 17 or more, breaks that rule (reading 32)
abbrev pub set_up_good : List ℕ → Bool
set_up_good setup =
    pick (not (eqb (length setup % 4) 0)) false
    (pick (eqb (count_of setup) 0) false (pick (not (leb (count_of setup) 16)) false (units_good setup (count_of setup))))
