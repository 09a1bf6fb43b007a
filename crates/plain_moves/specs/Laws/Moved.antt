-- A plain move: the load goes on by a word within its 15 bits, and a word goes into the silo or out of it.
-- Assumes nothing.
use Rattle.std.specs.Prelude.{Bool, true, false, not, ◌&&◌, ◌≡◌, refl, List, ℕ, ◌+◌, ◌*◌, ◌/◌, ◌%◌, ◌^◌, ◌≤◌, ◌<◌, length, get_or, set, take, Ok}
use Rattle.std.proofs.Common.{ap, sym, ◌∙◌, arith, lt-ltb, ne_eqb, lit≤, length-set, take_all}
use Rattle.codec.specs.Ends.{RING, SILO, silo_in, load_of}
use Rattle.codec.specs.Receivers.{dec_receiver}
use Rattle.codec.specs.Rings.{silo_of}
use Rattle.codec.specs.Transmitters.{dec_transmitter}
use Rattle.codec.specs.Window.{cell, window}
use Rattle.laws.specs.Bits.{bits, bit_at}
use Rattle.laws.specs.Pick.{past}
use Rattle.plain.specs.Places.{front, behind, with_one, without_oldest}
use Rattle.plain.specs.Laws.PlaceLaws.{parts, read_of, sized, parts_read, put_parts, taken_parts, oldest_there}
use Rattle.receiver.specs.Groups as RG
use Rattle.receiver.specs.Moves as R
use Rattle.receiver.specs.declared.side.Receiver.{Receiver}
use Rattle.silos.specs.Silo.{put, taken, oldest}
use Rattle.silos.specs.Laws.Laws.{sized_put, sized_taken}
use Rattle.silos.specs.declared.Silo.{Silo}
use Rattle.transmitter.specs.Fields.{with_memory_requests}
use Rattle.transmitter.specs.Groups as TG
use Rattle.transmitter.specs.Moves as T
use Rattle.transmitter.specs.declared.side.Modes.{Modes}
use Rattle.transmitter.specs.declared.side.Transmitter.{Transmitter}
use Rattle.words.specs.Address.{at, place_of}
use Rattle.words.specs.Count.{in_bytes}
use Rattle.words.specs.Load.{word_moved}
use Rattle.words.specs.declared.load.Advance.{Advance}
use Rattle.words.specs.declared.load.Load.{Load}
use Rattle.plain_moves.specs.Moving.{word_at}
use Rattle.plain_moves.specs.Laws.Sides.{side}

-- ---- the load of either end

same_advance : {count count' address address' : ℕ} {loaded loaded' overflow overflow' : Bool} → count ≡ count' → loaded ≡ loaded' → address ≡ address' → overflow ≡ overflow'
    → ◌≡◌ {A = Advance} (record { load = record { count = in_bytes count; loaded = loaded; address = at address }; overflow = overflow })
    (record { load = record { count = in_bytes count'; loaded = loaded'; address = at address' }; overflow = overflow' })
same_advance c l a o = rw (c, l, a, o)

module _ (low count control : ℕ) (low15 : low < 32767) (count15 : count < 32767) where
  -- loaded, and INH ADI clear
  advanced : bit_at control 1 ≡ true → bit_at control 2 ≡ false
      → word_moved (load_of low count control) (bit_at control 2) ≡ record { load = load_of (low + 1) (count + 1) control; overflow = false }
  advanced loaded goes =
      let n = (count % 2 ^ 15 * 2 + 2) % 2 ^ 16 in
      let e : n ≡ count * 2 + 2 = omega arith in
      let a = bits control 4 2 * 2 ^ 16 + low % 2 ^ 15 * 2 in
      let l : low % 2 ^ 15 ≡ low = omega arith in
      ap (word_moved (load_of low count control)) goes
      ∙ same_advance (omega arith) (rw (ne_eqb n 0 (λ (z : n ≡ 0). omega arith), loaded)) (omega arith) (ne_eqb a 262142 (λ (z : a ≡ 262142). omega arith))

  inside : (fitted : ℕ) → word_at low control < fitted → place_of (load_of low count control).address.0 fitted ≡ Ok (word_at low control)
  inside fitted h =
      let e : (bits control 4 2 * 2 ^ 16 + low % 2 ^ 15 * 2) / 2 ≡ word_at low control = omega arith in
      rw (e, lt-ltb (word_at low control) fitted h)

same_sender : (t : Transmitter) (l : Load) {s s' : Silo} {m m' : Modes} → s ≡ s' → m ≡ m'
    → TG.with_modes (TG.with_load (TG.with_silo t s) l) m ≡ TG.with_modes (TG.with_load (TG.with_silo t s') l) m'
same_sender t l s m = rw (s, m)

same_stored : (memory : List ℕ) (at : ℕ) {r r' : Receiver} {word word' : ℕ} → r ≡ r' → word ≡ word'
    → ◌≡◌ {A = R.Moved × List ℕ} (R.done_with r, set memory at word) (R.done_with r', set memory at word')
same_stored memory at r w = rw (r, w)

-- ---- the cells of either side: a word more, a word fewer

module _ (ring block own low count control status crc serial : ℕ) (silo : List ℕ) where
  abbrev before : List ℕ
  before = side ring block own low count control status crc serial silo

  abbrev pub one_more : ℕ → List ℕ
  one_more word = side (with_one ring) block own (low + 1) (count + 1) control status crc serial (set silo (behind ring) word)

  abbrev pub one_fewer : List ℕ
  one_fewer = side (without_oldest ring) block own (low + 1) (count + 1) control status crc serial silo

  module _ (cells64 : length silo ≡ 64) where
    ring_cells : take 64 silo ≡ silo
    ring_cells = take_all 64 silo (omega arith)

    -- the silo of the cells before
    silo_before : silo_in before ≡ silo_of 64 ring silo
    silo_before = ap (silo_of 64 ring) ring_cells

    module _ (room : ring < 4096) (word : ℕ) where
      -- what is read of the cells after is the silo with one word more
      silo_put : put 64 (silo_of 64 ring silo) word ≡ silo_in (one_more word)
      silo_put =
          let few : ring < 4160 = omega arith in
          let long : take 64 (set silo (behind ring) word) ≡ set silo (behind ring) word = take_all 64 (set silo (behind ring) word) (omega (arith, length-set silo (behind ring) word)) in
          sym (parts_read ring silo cells64 few (put 64 (silo_of 64 ring silo) word) (sized_put 64 (lit≤ tt) (silo_of 64 ring silo) word (sized ring silo cells64 few)))
          ∙ ap read_of (put_parts ring silo cells64 few word room)
          ∙ ap (silo_of 64 (with_one ring)) (sym long)

      -- and it is written as it stands there
      pub parts_put : parts (cell before RING) (window before SILO 64) (silo_in (one_more word)) ≡ (with_one ring, set silo (behind ring) word)
      parts_put =
          ap (λ (l : List ℕ). parts ring l (silo_in (one_more word))) ring_cells
          ∙ ap (parts ring silo) (sym silo_put)
          ∙ put_parts ring silo cells64 (omega arith) word room

    module _ (some : 64 ≤ ring) (few : ring < 4160) where
      silo_taken : taken (silo_of 64 ring silo) ≡ silo_in one_fewer
      silo_taken =
          sym (parts_read ring silo cells64 few (taken (silo_of 64 ring silo)) (sized_taken 64 (lit≤ tt) (silo_of 64 ring silo) (sized ring silo cells64 few)))
          ∙ ap read_of (taken_parts ring silo cells64 few some)
          ∙ ap (silo_of 64 (without_oldest ring)) (sym ring_cells)

      pub parts_taken : parts (cell before RING) (window before SILO 64) (silo_in one_fewer) ≡ (without_oldest ring, silo)
      parts_taken =
          ap (λ (l : List ℕ). parts ring l (silo_in one_fewer)) ring_cells ∙ ap (parts ring silo) (sym silo_taken) ∙ taken_parts ring silo cells64 few some

      silo_oldest : oldest (silo_in before) ≡ get_or silo (front ring) 0
      silo_oldest = ap oldest silo_before ∙ oldest_there ring silo cells64 few some

    -- ---- a move: loaded, INH ADI clear, and neither the address nor the count leaves its 15 bits

    module _ (low15 : low < 32767) (count15 : count < 32767) (loaded : bit_at control 1 ≡ true) (goes : bit_at control 2 ≡ false) (memory : List ℕ) (fitted : ℕ)
        (there : word_at low control < fitted) where
      pub transmitter_moved : T.may_move (dec_transmitter before) ≡ true → bit_at control 14 ≡ true → ring < 4096
          → T.moved (dec_transmitter before) memory fitted ≡ T.done_with (dec_transmitter (one_more (get_or memory (word_at low control) 0)))
      transmitter_moved may requests room =
          let t = dec_transmitter before in
          let word = get_or memory (word_at low control) 0 in
          let m : bit_at control 14 && bit_at control 1 ≡ bit_at control 14 = rw (requests, loaded) in
          sym (past _ (ap not may) refl)
          ∙ ap (T.moved_from t memory) (inside low count control low15 count15 fitted there)
          ∙ ap T.done_with
          (ap (T.advanced t word) (advanced low count control low15 count15 loaded goes)
          ∙ same_sender t (load_of (low + 1) (count + 1) control) (ap (λ (s : Silo). put 64 s word) silo_before ∙ silo_put room word) (ap (with_memory_requests t.modes) m))

      pub receiver_moved : R.may_move (dec_receiver before) ≡ true → 64 ≤ ring → ring < 4160
          → R.moved (dec_receiver before) memory fitted ≡ (R.done_with (dec_receiver one_fewer), set memory (word_at low control) (get_or silo (front ring) 0))
      receiver_moved may some few =
          let r = dec_receiver before in
          sym (past _ (ap not may) (past _ (ap not loaded) refl))
          ∙ ap (R.moved_to r memory) (inside low count control low15 count15 fitted there)
          ∙ same_stored memory (word_at low control) (ap (R.advanced r) (advanced low count control low15 count15 loaded goes)
          ∙ ap (λ (x : Silo). RG.with_load (RG.with_silo r x) (load_of (low + 1) (count + 1) control)) (ap taken silo_before ∙ silo_taken some few)) (silo_oldest some few)
