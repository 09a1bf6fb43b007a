-- The words of a message at the transmitter: how many are to come, and how a memory move and a slice take them on.
-- Assumes nothing.
use Rattle.std.specs.Prelude.{true, false, List, ◌∷◌, ◌++◌, ◌≡◌, ℕ, suc, ◌+◌, ◌-◌, ◌/◌, ◌^◌, ◌≤◌, ◌<◌, length, get_or, drop}
use Rattle.std.proofs.Common.{ap, sym, ◌∙◌, add-one, arith, lit≤, length-append, length-drop, drop-cons}
use Rattle.std.proofs.Math.Seq.{append_snoc}
use Rattle.silos.specs.Laws.Laws.{length_words, sized_put, sized_taken, words_put, words_taken}
use Rattle.silos.specs.Silo.{is_empty, oldest, put, taken, words as held}
use Rattle.transmitter.specs.Moves.{may_move, moved}
use Rattle.transmitter.specs.Groups.{with_silo}
use Rattle.transmitter.specs.declared.side.Transmitter.{Transmitter}
use Rattle.words.specs.Load.{words_left, word_moved}
use Rattle.words.specs.Laws.LoadLaws.{bounded_moved}
use Rattle.delivery.specs.Ends.{Message}
use Rattle.delivery.specs.Laws.Invariant.{Holds, Laid, Sending}
use Rattle.delivery.specs.Laws.Loads.{loaded_some, some_loaded, one_moved, next_place}
use Rattle.delivery.specs.Laws.Loading.{after, goes, loaded_and_room}

module _ (m : Message) (s : ℕ) (t : Transmitter) (k : Sending m s t) where
  -- T's words and those the load has left are the ones not sent
  pub to_come_lem : s ≤ length m.content → t.end.silo.held + words_left t.end.load + s ≡ length m.content
  to_come_lem most =
      let e = simp (length-append, length-drop) at (ap length k.to_come) in
      omega (arith, e, length_words 64 (lit≤ tt) t.end.silo k.sized)

-- ---- a transmitter's move

module _ (m : Message) (s : ℕ) (t : Transmitter) (k : Sending m s t) (laid : Laid m) (memory : List ℕ) (holds : Holds m memory) (may : may_move t ≡ true) where
  going : k.gone < length m.rest
  going = omega (arith, loaded_some t.end.load k.bounded (loaded_and_room t may).0, k.left)

  source_place : t.end.load.address.0 / 2 ≡ m.source + k.gone
  source_place = omega (arith, k.place)

  source_short : t.end.load.address.0 < 2 ^ 18 - 2
  source_short = omega (arith, k.place, laid.sent.short k.gone going)

  pub loads : (moved t memory m.sending_length).side ≡ after t memory
  loads =
      goes t memory m.sending_length k.bounded k.increments (omega (arith, source_place, laid.sent.inside k.gone going))
      source_short may

  one_loaded : held (put 64 t.end.silo (get_or memory (t.end.load.address.0 / 2) 0)) ++ drop (k.gone + 1) m.rest ≡ drop s m.content
  one_loaded =
      let room = (loaded_and_room t may).1 in
      let w : get_or memory (t.end.load.address.0 / 2) 0 ≡ get_or m.rest k.gone 0 = rw source_place (holds k.gone going) in
      rw (words_put 64 (lit≤ tt) t.end.silo k.sized _ room, w, add-one, append_snoc, ← drop-cons m.rest k.gone 0 going) k.to_come

  pub sending_loaded : Sending m s (after t memory)
  sending_loaded =
      let word = get_or memory (t.end.load.address.0 / 2) 0 in
      let loaded = (loaded_and_room t may).0 in
      let bounded = bounded_moved t.end.load k.bounded false in
      record {
        sized = sized_put 64 (lit≤ tt) t.end.silo word k.sized;
        bounded = bounded;
        gone = k.gone + 1;
        left = omega (arith, one_moved t.end.load k.bounded loaded, k.left);
        place = next_place t.end.load k.bounded source_short ∙ omega (arith, k.place);
        to_come = one_loaded;
        requests = λ some. rw (loaded_and_room t may).2 (some_loaded (word_moved t.end.load false).load bounded some);
        increments = k.increments;
        read_silo = k.read_silo;
        destination = k.destination;
        no_error = k.no_error;
        no_reject = k.no_reject;
      }

-- ---- a word is sent: it was the next one

module _ (m : Message) (s : ℕ) (t : Transmitter) (k : Sending m s t) (more : s < length m.content) (some : is_empty t.end.silo ≡ false) where
  next_words : oldest t.end.silo ∷ (held (taken t.end.silo) ++ drop k.gone m.rest) ≡ get_or m.content s 0 ∷ drop (suc s) m.content
  next_words =
      ap (λ (l : List ℕ). l ++ drop k.gone m.rest) (sym (words_taken 64 (lit≤ tt) t.end.silo k.sized some))
      ∙ k.to_come
      ∙ drop-cons m.content s 0 more

  pub next_word : oldest t.end.silo ≡ get_or m.content s 0
  next_word = cc next_words

  next_to_come : held (taken t.end.silo) ++ drop k.gone m.rest ≡ drop (s + 1) m.content
  next_to_come = rw add-one (cc next_words)

  pub sending_word : Sending m (s + 1) (with_silo t (taken t.end.silo))
  sending_word =
      record {
        sized = sized_taken 64 (lit≤ tt) t.end.silo k.sized;
        bounded = k.bounded;
        gone = k.gone;
        left = k.left;
        place = k.place;
        to_come = next_to_come;
        requests = k.requests;
        increments = k.increments;
        read_silo = k.read_silo;
        destination = k.destination;
        no_error = k.no_error;
        no_reject = k.no_reject;
      }
