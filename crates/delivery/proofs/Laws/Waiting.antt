-- What the two ends are ready for once both have moved until 4.
-- Assumes nothing.
use Rattle.std.specs.Prelude.{Bool, true, false, not, ◌&&◌, List, ◌≡◌, refl, ℕ, ◌≤◌, ◌<◌, eqb, length}
use Rattle.std.proofs.Common.{sym, arith, eq-eqb, eqb-true, lt-ltb}
use Rattle.laws.specs.Pick.{by}
use Rattle.receiver.specs.Moves as R
use Rattle.receiver.specs.declared.side.Receiver.{Receiver}
use Rattle.sending.specs.Choice.{all_sent}
use Rattle.silos.specs.Silo.{has_room, is_empty}
use Rattle.transmitter.specs.Moves as T
use Rattle.transmitter.specs.declared.side.Transmitter.{Transmitter}
use Rattle.words.specs.Load.{words_left}
use Rattle.delivery.specs.Ends.{Message}
use Rattle.delivery.specs.Laws.Invariant.{Receiving, Sending}
use Rattle.delivery.specs.Laws.Loads.{some_loaded}
use Rattle.delivery.proofs.Laws.SendingWords.{to_come_lem}

module _ (m : Message) (s : ℕ) (t : Transmitter) (k : Sending m s t) (started : t.commands.start_transmission ≡ true) where
  -- "ST TXM set, no bytes left, silo empty" once every word was sent, and not before
  pub all_sent_lem : s ≡ length m.content → all_sent t ≡ true
  all_sent_lem e =
      let none = to_come_lem m s t k (omega arith) in
      rw (started, eq-eqb (words_left t.end.load) 0 (omega arith), eq-eqb t.end.silo.held 0 (omega arith))

  pub not_all_sent : s < length m.content → all_sent t ≡ false
  not_all_sent more = rw started (go (eqb (words_left t.end.load) 0) (is_empty t.end.silo) neither)
    where
      go : (a b : Bool) → (a ≡ true → b ≡ true → ⊥) → (a && b) ≡ false
      go true true h = absurd (h refl refl)
      go true false h = refl
      go false b h = refl

      neither : eqb (words_left t.end.load) 0 ≡ true → is_empty t.end.silo ≡ true → ⊥
      neither a b = omega (arith, eqb-true (words_left t.end.load) 0 a, eqb-true t.end.silo.held 0 b, to_come_lem m s t k (omega arith))

  -- T has a word to send: were its silo empty, the load would have a word left and the silo room for it
  pub word_waits : t.channel.ending ≡ false → T.may_move t ≡ false → s < length m.content → is_empty t.end.silo ≡ false
  word_waits going stopped more =
      by (is_empty t.end.silo)
      (λ none. absurd (let held : t.end.silo.held ≡ 0 = eqb-true _ _ none in
      let left : 1 ≤ words_left t.end.load = omega (arith, to_come_lem m s t k (omega arith)) in
      let may : T.may_move t ≡ true =
      rw (k.requests left, some_loaded t.end.load k.bounded left, k.no_error, lt-ltb t.end.silo.held 64 (omega arith), k.read_silo, going) in
      let z : ◌≡◌ {A = ℕ} 0 1 = cc in
      omega arith))
      (λ some. some)

-- R's silo is empty
pub silo_emptied : (m : Message) (s : ℕ) (r : Receiver) (memory : List ℕ) → Receiving m s r memory → R.may_move r ≡ false → is_empty r.end.silo ≡ true
silo_emptied m s r memory k stopped = go (is_empty r.end.silo) (rw (k.requests, k.no_error) at stopped)
  where
    go : (b : Bool) → (true && not b && true) ≡ false → b ≡ true
    go true e = refl
    go false e = sym e

pub has_room_lem : (r : Receiver) → is_empty r.end.silo ≡ true → has_room 64 r.end.silo ≡ true
has_room_lem r none = lt-ltb r.end.silo.held 64 (omega (arith, eqb-true r.end.silo.held 0 none))
