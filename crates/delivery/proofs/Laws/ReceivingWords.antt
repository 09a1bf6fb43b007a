-- The words of a message at the receiver: how a memory move and a slice take them on.
-- Assumes nothing.
use Rattle.std.specs.Prelude.{true, false, List, [], ◌∷◌, ◌++◌, ◌≡◌, ℕ, suc, ◌+◌, ◌-◌, ◌/◌, ◌^◌, ◌≤◌, ◌<◌, length, get_or, set, take}
use Rattle.std.proofs.Common.{ap, sym, ◌∙◌, add-one, arith, lit≤, length-take-le, take-suc}
use Rattle.std.proofs.lemmas.Bool.{eqb-false}
use Rattle.std.proofs.lemmas.List.{drop-append-le}
use Rattle.std.proofs.Math.Seq.{length-slice, paste-suc, slice-cons, slice as part}
use Rattle.answering.specs.Laws.Listening.{after_word}
use Rattle.receiver.specs.Moves.{done_with, may_move, moved}
use Rattle.receiver.specs.declared.side.Receiver.{Receiver}
use Rattle.silos.specs.Laws.Laws.{length_words, sized_put, sized_taken, words_put, words_taken}
use Rattle.silos.specs.Silo.{has_room, oldest, taken, words as held}
use Rattle.words.specs.Laws.LoadLaws.{bounded_moved}
use Rattle.delivery.specs.Ends.{Message}
use Rattle.delivery.specs.Laws.Invariant.{Laid, Receiving}
use Rattle.delivery.specs.Laws.Loads.{some_loaded, one_moved, next_place}
use Rattle.delivery.specs.Laws.Storing.{after, goes, some_word}

module _ (m : Message) (s : ℕ) (r : Receiver) (memory : List ℕ) (k : Receiving m s r memory) (most : s ≤ length m.content) where
  -- R's words are those sent and not yet in the memory
  pub to_store : r.end.silo.held + k.stored ≡ s
  to_store =
      omega (arith, length_words 64 (lit≤ tt) r.end.silo k.sized, ap length k.in_silo, length-slice k.stored s m.content most, k.sent)

  -- ---- a receiver's move

  module _ (laid : Laid m) (may : may_move r ≡ true) where
    pub going : k.stored < s
    going = omega (arith, eqb-false r.end.silo.held 0 (some_word r may), to_store)

    loaded : r.end.load.loaded ≡ true
    loaded = some_loaded r.end.load k.bounded (omega (arith, k.enough, going))

    target_place : r.end.load.address.0 / 2 ≡ m.target + k.stored
    target_place = omega (arith, k.place)

    target_inside : m.target + k.stored < m.receiving_length
    target_inside = laid.stored.inside k.stored (omega (arith, going))

    target_short : r.end.load.address.0 < 2 ^ 18 - 2
    target_short = omega (arith, k.place, laid.stored.short k.stored (omega (arith, going)))

    -- the word goes to the next place of the stretch
    pub stores : moved r memory m.receiving_length ≡ (done_with (after r), set memory (m.target + k.stored) (oldest r.end.silo))
    stores =
        goes r memory m.receiving_length k.bounded k.increments loaded (omega (arith, target_place, target_inside)) target_short may
        ∙ ap (λ (i : ℕ). (done_with (after r), set memory i (oldest r.end.silo))) target_place

    next_words : oldest r.end.silo ∷ held (taken r.end.silo) ≡ get_or m.content k.stored 0 ∷ part (suc k.stored) s m.content
    next_words =
        sym (words_taken 64 (lit≤ tt) r.end.silo k.sized (some_word r may)) ∙ k.in_silo ∙ slice-cons k.stored s m.content 0 going most

    pub receiving_stored : Receiving m s (after r) (set memory (m.target + k.stored) (oldest r.end.silo))
    receiving_stored =
        let word : oldest r.end.silo ≡ get_or m.content k.stored 0 = cc next_words in
        let in_list : k.stored < length m.content = omega (arith, going) in
        let in_place : m.target + k.stored < length m.before = omega (arith, target_inside, laid.lent) in
        record {
          sized = sized_taken 64 (lit≤ tt) r.end.silo k.sized;
          bounded = bounded_moved r.end.load k.bounded false;
          stored = k.stored + 1;
          sent = omega (arith, going);
          enough = omega (arith, one_moved r.end.load k.bounded loaded, k.enough);
          place = next_place r.end.load k.bounded target_short ∙ omega (arith, k.place);
          in_silo = rw add-one (cc next_words);
          in_memory =
              rw (word, k.in_memory, add-one) (paste-suc m.before m.target m.content k.stored 0 in_place in_list);
          requests = k.requests;
          increments = k.increments;
          no_error = k.no_error;
          no_reject = k.no_reject;
        }

-- ---- a word is received: the next one

module _ (m : Message) (s : ℕ) (r : Receiver) (memory : List ℕ) (k : Receiving m s r memory) (more : s < length m.content) where
  one_more : part k.stored (suc s) m.content ≡ part k.stored s m.content ++ (get_or m.content s 0 ∷ [])
  one_more =
      let fits : k.stored ≤ length (take s m.content) = rw (length-take-le s m.content (omega arith)) k.sent in
      rw (take-suc m.content s 0 more) (drop-append-le k.stored (take s m.content) (get_or m.content s 0 ∷ []) fits)

  pub receiving_word : has_room 64 r.end.silo ≡ true → Receiving m (s + 1) (after_word r (get_or m.content s 0)) memory
  receiving_word room =
      record {
        sized = sized_put 64 (lit≤ tt) r.end.silo (get_or m.content s 0) k.sized;
        bounded = k.bounded;
        stored = k.stored;
        sent = omega (arith, k.sent);
        enough = k.enough;
        place = k.place;
        in_silo = rw (words_put 64 (lit≤ tt) r.end.silo k.sized _ room, add-one, one_more, k.in_silo);
        in_memory = k.in_memory;
        requests = k.requests;
        increments = k.increments;
        no_error = k.no_error;
        no_reject = k.no_reject;
      }
