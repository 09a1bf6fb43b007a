-- Document 01, The script program: "`link` reads records from standard input: length (2 bytes, little-endian, of kind and body), kind
-- (2), body." Bytes are numbers below 256.
-- Assumes nothing.
use Rattle.std.specs.Prelude.{Bool, List, ℕ, ◌+◌, ◌-◌, ◌*◌, eqb, ltb, length, get_or, take, drop}
use Rattle.laws.specs.Pick.{pick}
use Rattle.script.specs.declared.calls.Call.{Call}
use Rattle.script.specs.declared.calls.Found.{Found}

-- a byte, and a word of 2 bytes, little-endian
abbrev pub byte_at : List ℕ → ℕ → ℕ
byte_at bytes k = get_or bytes k 0

abbrev pub word_at : List ℕ → ℕ → ℕ
word_at bytes k = byte_at bytes k + byte_at bytes (k + 1) * 256

-- ---- the call of a record, from its kind and body, and how many bytes the record has

-- the call, where kind and body are as long as the kind asks; "a record .. of wrong length prints `stop`"
abbrev pub sized : List ℕ → ℕ → Call → Found
sized bytes wanted call = pick (eqb (length bytes) wanted) (Found.Call call (2 + wanted)) Found.Stop

-- "Kind 1 fit: count, then transmitter, receiver, switch per unit, one byte each"
abbrev pub fit_of : List ℕ → Found
fit_of bytes = sized bytes (3 + 3 * byte_at bytes 2) (Call.Fit (byte_at bytes 2))

-- "3 read: unit, offset. 4 slice: data mask (2), parity mask (1). 8 byte write: unit, offset, byte. 2 word write, 5 move, 6 period,
-- 7 reset, 9 interrupt level: fields alike, words 2 bytes, all else one"; "An unknown kind .. prints `stop`"
unfoldable pub call_of : List ℕ → Found
call_of bytes =
    pick (eqb (word_at bytes 0) 1) (fit_of bytes)
    (pick (eqb (word_at bytes 0) 2) (sized bytes 6 (Call.WordWrite (byte_at bytes 2) (byte_at bytes 3) (word_at bytes 4)))
    (pick (eqb (word_at bytes 0) 3) (sized bytes 4 (Call.WordRead (byte_at bytes 2) (byte_at bytes 3)))
    (pick (eqb (word_at bytes 0) 4) (sized bytes 5 (Call.Slice (word_at bytes 2) (byte_at bytes 4)))
    (pick (eqb (word_at bytes 0) 5) (sized bytes 4 (Call.Move (byte_at bytes 2) (byte_at bytes 3)))
    (pick (eqb (word_at bytes 0) 6) (sized bytes 3 (Call.Period (byte_at bytes 2)))
    (pick (eqb (word_at bytes 0) 7) (sized bytes 3 (Call.Reset (byte_at bytes 2)))
    (pick (eqb (word_at bytes 0) 8) (sized bytes 5 (Call.ByteWrite (byte_at bytes 2) (byte_at bytes 3) (byte_at bytes 4)))
    (pick (eqb (word_at bytes 0) 9) (sized bytes 4 (Call.Level (byte_at bytes 2) (byte_at bytes 3)))
    Found.Stop))))))))

-- ---- what comes next in an input, from the bytes of it that are at hand; `ended` where no more come after them

-- "a record cut short .. prints `stop`", where the input has ended
abbrev pub cut_short : Bool → Found
cut_short ended = pick ended Found.Stop Found.More

-- bytes that begin with a record. No kind has a length above 768.
abbrev pub record_in : List ℕ → Bool → Found
record_in rest ended =
    pick (ltb (length rest) 2) (cut_short ended)
    (pick (ltb 768 (word_at rest 0)) Found.Stop
    (pick (ltb (length rest - 2) (word_at rest 0)) (cut_short ended) (call_of (take (word_at rest 0) (drop 2 rest)))))

-- "end of input between records just ends"
unfoldable pub next_record : List ℕ → Bool → Found
next_record rest ended = pick (eqb (length rest) 0) (pick ended Found.End Found.More) (record_in rest ended)
