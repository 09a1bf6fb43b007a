-- Addresses loaded one after the other, and the write that clears AUT ADR.
-- Assumes nothing.
use Rattle.std.specs.Prelude.{Bool, true, false, not, ◌&&◌, ◌||◌, List, [], ◌∷◌, ◌++◌, map, ◌≡◌, refl, ℕ, ◌+◌, ◌*◌, ◌^◌, ◌≤◌, ◌<◌, eqb, length, Result, Ok, Err}
use Rattle.std.proofs.Common.{true≢false, append-nil, append_assoc, inl, inr, ⊎_elim, ap, subst, sym, ◌∙◌, arith, lt-ltb, eqb-true, eq-eqb, ne_eqb, lit≤, length-append}
use Rattle.std.proofs.Math.Bool.{and-false}
use Rattle.std.proofs.lemmas.List.{map-append}
use Rattle.std.proofs.Math.Path.{subst⁻¹}
use Rattle.std.proofs.lemmas.Bool.{lt-leb}
use Rattle.accesses.specs.Masters.{mastership_of, holder_after}
use Rattle.accesses.specs.Writing.{unit_byte_written, master_low_written, after_master}
use Rattle.cells.specs.Fitted.{master_of, transmitter_of}
use Rattle.cells.specs.Layout.{count_in, holder_in}
use Rattle.cells.specs.Ranges.{in_range}
use Rattle.frames.specs.Laws.Leaves.{Leaves, At, master_within, stays}
use Rattle.frames.specs.Laws.Sides.{sides_of, replaced_here}
use Rattle.frames.specs.Laws.Writes.{byte_on, byte_leaves}
use Rattle.laws.specs.Bits.{bit_at}
use Rattle.laws.specs.Pick.{by, either, past, here, pick}
use Rattle.master.specs.Ring.{address, addresses_in, may_start}
use Rattle.master.specs.Section.{master_written}
use Rattle.master.specs.Side.{Within, with_addresses}
use Rattle.master.specs.Writing.{takes_address, loaded, low_byte_written, high_byte_written, refused, auto_left, silo_found, tries}
use Rattle.master.specs.declared.side.Master.{Master}
use Rattle.master.specs.declared.side.Mastership.{Mastership}
use Rattle.master.specs.Laws.RingLaws.{length_addresses}
use Rattle.pcl.specs.Calls.{byte_call, written_by, at_unit}
use Rattle.pcl.specs.Numbers.{write_call_number}
use Rattle.promise.specs.World.{World, Event, write_byte, step, run}
use Rattle.silos.specs.Silo.{words, is_empty, has_room, put}
use Rattle.silos.specs.declared.Silo.{Silo}
use Rattle.silos.specs.Laws.Laws.{words_put, words_empty}
use Rattle.words.specs.Bits.TMMR as Bits
use Rattle.words.specs.declared.answers.Write.{Write}
use Rattle.words.specs.declared.answers.Refusal.{Refusal}
use Rattle.turns.specs.Loading.{Empty, Empties, Clears, MayHave, loads, Done}
use Rattle.turns.specs.Round.{GoesRound}

-- how a unit stands while a list is loaded, with these addresses so far; the master is who it was
pub record Holding (unit holder : ℕ) (list : List ℕ) (cells : List ℕ) : Type 0 where
  pub ranged : in_range cells ≡ true
  pub fitted : unit < count_in cells
  pub held : holder_in cells ≡ holder
  pub auto : (master_of cells unit).auto_address ≡ true
  pub not_reading : (transmitter_of cells unit).modes.read_silo ≡ false
  pub holds : addresses_in (master_of cells unit).addresses ≡ list

-- a call at a fitted unit is done
admitted_done : {A : Type 0} (cells : List ℕ) (unit : ℕ) (bad none : A) (rest : A × List ℕ) → in_range cells ≡ true → unit < count_in cells → at_unit cells unit bad none rest ≡ rest
admitted_done cells unit bad none rest ok there = sym (past _ (ap not ok) (past _ (lt-leb (count_in cells) unit there) refl))

-- who was master before is who is master where the mastership stays
same_holder : (holder unit : ℕ) → holder_after holder unit (mastership_of holder unit) ≡ holder
same_holder holder unit =
    let P : Mastership → Type 0 = λ m. holder_after holder unit m ≡ holder in
    either P (eqb holder 0) (λ e. sym (eqb-true holder 0 e)) (λ e. either P (eqb holder (unit + 1)) (λ e. sym (eqb-true holder (unit + 1) e)) (λ e. refl))

-- and where MASTER was this unit's to have, it still is, whatever is written
written_may : (unit holder : ℕ) (bit : Bool) → MayHave unit holder → MayHave unit (holder_after holder unit (master_written (mastership_of holder unit) bit))
written_may unit holder bit may =
    let After : Mastership → Type 0 = λ m. MayHave unit (holder_after holder unit m) in
    let written : After (pick bit Mastership.Own Mastership.Nobody) = either After bit (λ t. inr refl) (λ t. inl refl) in
    ⊎_elim
    (λ (e : holder ≡ 0).
    let nobody : mastership_of holder unit ≡ Mastership.Nobody = rw (eq-eqb holder 0 e) in
    subst⁻¹ (λ (m : Mastership). After (master_written m bit)) nobody written)
    (λ (e : holder ≡ unit + 1).
    let own : mastership_of holder unit ≡ Mastership.Own = rw (ne_eqb holder 0 (λ (q : holder ≡ 0). omega arith), eq-eqb holder (unit + 1) e) in
    subst⁻¹ (λ (m : Mastership). After (master_written m bit)) own written)
    may

module _ (unit holder : ℕ) (list : List ℕ) (cells : List ℕ) (h : Holding unit holder list cells) where
  abbrev m : Master
  m = master_of cells unit

  within : Within m
  within = master_within (stays h.ranged) unit h.fitted

  held_length : m.addresses.held ≡ length list
  held_length = sym (length_addresses m.addresses within.silo) ∙ ap length h.holds

  -- ---- one address

  module _ (room : length list < 50) (a : ℕ) (fits : a < 32) where
    takes : takes_address m (transmitter_of cells unit).modes.read_silo ≡ true
    takes = rw (h.auto, h.not_reading) (lt-ltb m.addresses.held 50 (omega (arith, held_length)))

    joined : addresses_in (put 50 m.addresses (address a)) ≡ list ++ (a ∷ [])
    joined =
        let there : has_room 50 m.addresses ≡ true = lt-ltb m.addresses.held 50 (omega (arith, held_length)) in
        let same : address (address a) ≡ a = omega arith in
        ap (map address) (words_put 50 (lit≤ tt) m.addresses within.silo (address a) there)
        ∙ map-append address (words m.addresses) (address a ∷ [])
        ∙ ap (λ (x : ℕ). addresses_in m.addresses ++ (x ∷ [])) same
        ∙ ap (λ (l : List ℕ). l ++ (a ∷ [])) h.holds

    call : byte_call cells unit 10 a ≡ written_by (unit_byte_written cells unit 10 a)
    call = admitted_done cells unit (Err Refusal.BadState) (Err Refusal.NoUnit) (written_by (unit_byte_written cells unit 10 a)) h.ranged h.fitted

    side_taken : (loaded m (transmitter_of cells unit).modes.read_silo a).side ≡ with_addresses m (put 50 m.addresses (address a))
    side_taken = rw takes

    not_dropped : (loaded m (transmitter_of cells unit).modes.read_silo a).dropped ≡ false
    not_dropped = rw takes

    pub load_done : write_call_number (byte_call cells unit 10 a).0 ≡ 0
    load_done =
        let x = low_byte_written m (mastership_of (holder_in cells) unit) (transmitter_of cells unit).modes.read_silo a in
        let written : master_low_written cells unit a ≡ after_master cells unit x = sym (here _ takes refl) in
        ap (λ (r : Result Write Refusal × List ℕ). write_call_number r.0) call
        ∙ ap (λ (r : Result Write Refusal × List ℕ). write_call_number r.0) written
        ∙ ap (λ (b : Bool). write_call_number (pick b (Ok Write.Dropped) (Ok Write.Done))) not_dropped

    pub load_holds : Holding unit holder (list ++ (a ∷ [])) (byte_call cells unit 10 a).1
    load_holds =
        let l = byte_leaves cells h.ranged unit h.fitted 10 a (omega arith) in
        let side = l.holds.master unit h.fitted ∙ replaced_here (master_of cells) unit _ ∙ side_taken in
        subst⁻¹ (λ (r : Result Write Refusal × List ℕ). Holding unit holder (list ++ (a ∷ [])) r.1) call
        (record {
          ranged = l.ranged;
          fitted = subst⁻¹ (λ (n : ℕ). unit < n) l.kept.count h.fitted;
          held = l.holds.holder ∙ same_holder (holder_in cells) unit ∙ h.held;
          auto = ap (λ (x : Master). x.auto_address) side ∙ h.auto;
          not_reading = ap (λ t. t.modes.read_silo) (l.holds.transmitter unit h.fitted) ∙ h.not_reading;
          holds = ap (λ (x : Master). addresses_in x.addresses) side ∙ joined;
        })

  -- ---- the write that clears AUT ADR

  module _ (may : may_start list ≡ true) (high : ℕ) (c : Clears high) where
    abbrev word : ℕ
    word = high * 2 ^ 8

    found : silo_found m.addresses (bit_at word Bits.CLR_ADR) ≡ m.addresses
    found = sym (past _ c.clear_addresses refl)

    not_refused : refused m word ≡ false
    not_refused =
        let start : may_start (addresses_in (silo_found m.addresses (bit_at word Bits.CLR_ADR))) ≡ true =
        ap (λ (s : Silo). may_start (addresses_in s)) found ∙ ap may_start h.holds ∙ may in
        ap (λ (b : Bool). tries m word && not b) start ∙ and-false (tries m word)

    left_clear : auto_left m word ≡ false
    left_clear = ap (λ (b : Bool). bit_at word Bits.AUT_ADR || b) not_refused ∙ ap (λ (b : Bool). b || false) c.auto_address

    clear_call : byte_call cells unit 11 high ≡ written_by (unit_byte_written cells unit 11 high)
    clear_call = admitted_done cells unit (Err Refusal.BadState) (Err Refusal.NoUnit) (written_by (unit_byte_written cells unit 11 high)) h.ranged h.fitted

    pub clear_done : write_call_number (byte_call cells unit 11 high).0 ≡ 0
    clear_done =
        ap (λ (r : Result Write Refusal × List ℕ). write_call_number r.0) clear_call
        ∙ ap (λ (b : Bool). write_call_number (pick b (Ok Write.NotStarted) (Ok Write.Done))) not_refused

    cleared_leaves : Leaves (At unit) cells (unit_byte_written cells unit 11 high).1 (byte_on (sides_of cells) unit 11 high)
    cleared_leaves = byte_leaves cells h.ranged unit h.fitted 11 high c.byte

    cleared_side : master_of (unit_byte_written cells unit 11 high).1 unit ≡ (high_byte_written m (mastership_of (holder_in cells) unit) high).side
    cleared_side = cleared_leaves.holds.master unit h.fitted ∙ replaced_here (master_of cells) unit _

    pub clear_auto : (master_of (byte_call cells unit 11 high).1 unit).auto_address ≡ false
    clear_auto =
        ap (λ (r : Result Write Refusal × List ℕ). (master_of r.1 unit).auto_address) clear_call
        ∙ ap (λ (x : Master). x.auto_address) cleared_side
        ∙ left_clear

    pub clear_holds : addresses_in (master_of (byte_call cells unit 11 high).1 unit).addresses ≡ list
    clear_holds =
        ap (λ (r : Result Write Refusal × List ℕ). addresses_in (master_of r.1 unit).addresses) clear_call
        ∙ ap (λ (x : Master). addresses_in x.addresses) cleared_side
        ∙ ap addresses_in found
        ∙ h.holds

    -- and takes MASTER, where it has it already or nobody has
    pub clear_goes : bit_at word Bits.MASTER ≡ true → MayHave unit holder → GoesRound unit list (byte_call cells unit 11 high).1
    clear_goes master free =
        let own : holder_after (holder_in cells) unit (master_written (mastership_of (holder_in cells) unit) (bit_at word Bits.MASTER)) ≡ unit + 1 =
        ap (λ (b : Bool). holder_after (holder_in cells) unit (master_written (mastership_of (holder_in cells) unit) b)) master
        ∙ ap (λ (n : ℕ). holder_after n unit (master_written (mastership_of n unit) true)) h.held
        ∙ ⊎_elim (λ (e : holder ≡ 0). rw (eq-eqb holder 0 e))
        (λ (e : holder ≡ unit + 1). rw (ne_eqb holder 0 (λ (q : holder ≡ 0). omega arith), eq-eqb holder (unit + 1) e)) free in
        record {
          ranged = ap (λ (r : Result Write Refusal × List ℕ). in_range r.1) clear_call ∙ cleared_leaves.ranged;
          master = ap (λ (r : Result Write Refusal × List ℕ). holder_in r.1) clear_call ∙ cleared_leaves.holds.holder ∙ own;
          cleared = clear_auto;
          holds = clear_holds;
        }

-- ---- an empty silo, and a write that empties it

-- what an empty silo holds
pub empty_holds : (unit : ℕ) (cells : List ℕ) → Empty unit cells → Holding unit (holder_in cells) [] cells
empty_holds unit cells e =
    let within = master_within (stays e.ranged) unit e.fitted in
    let none = words_empty 50 (lit≤ tt) (master_of cells unit).addresses within.silo e.none in
    record {
      ranged = e.ranged;
      fitted = e.fitted;
      held = refl;
      auto = by (master_of cells unit).auto_address (λ t. t) (λ t. absurd (true≢false (sym e.none ∙ within.some t)));
      not_reading = e.not_reading;
      holds = ap (map address) none;
    }

module _ (unit : ℕ) (cells : List ℕ) (ok : in_range cells ≡ true) (there : unit < count_in cells) (high : ℕ) (e : Empties high) where
  abbrev section : Master
  section = master_of cells unit

  empty_call : byte_call cells unit 11 high ≡ written_by (unit_byte_written cells unit 11 high)
  empty_call = admitted_done cells unit (Err Refusal.BadState) (Err Refusal.NoUnit) (written_by (unit_byte_written cells unit 11 high)) ok there

  no_try : refused section (high * 2 ^ 8) ≡ false
  no_try =
      let s = silo_found section.addresses (bit_at (high * 2 ^ 8) Bits.CLR_ADR) in
      let kept : tries section (high * 2 ^ 8) ≡ false =
      ap (λ (b : Bool). (is_empty s || section.auto_address) && not b) e.auto_address ∙ and-false (is_empty s || section.auto_address) in
      ap (λ (b : Bool). b && not (may_start (addresses_in s))) kept

  pub empty_done : write_call_number (byte_call cells unit 11 high).0 ≡ 0
  empty_done =
      ap (λ (r : Result Write Refusal × List ℕ). write_call_number r.0) empty_call
      ∙ ap (λ (b : Bool). write_call_number (pick b (Ok Write.NotStarted) (Ok Write.Done))) no_try

  pub emptied : (transmitter_of cells unit).modes.read_silo ≡ false → Empty unit (byte_call cells unit 11 high).1
  emptied reading =
      let l = byte_leaves cells ok unit there 11 high e.byte in
      let side = l.holds.master unit there ∙ replaced_here (master_of cells) unit _ in
      subst⁻¹ (λ (r : Result Write Refusal × List ℕ). Empty unit r.1) empty_call
      (record {
        ranged = l.ranged;
        fitted = subst⁻¹ (λ (n : ℕ). unit < n) l.kept.count there;
        none =
            ap (λ (x : Master). is_empty x.addresses) side
            ∙ ap (λ (b : Bool). is_empty (silo_found section.addresses b)) e.clear_addresses;
        not_reading = ap (λ t. t.modes.read_silo) (l.holds.transmitter unit there) ∙ reading;
      })

  pub emptied_may : MayHave unit (holder_in cells) → MayHave unit (holder_in (byte_call cells unit 11 high).1)
  emptied_may may =
      let l = byte_leaves cells ok unit there 11 high e.byte in
      let same = ap (λ (r : Result Write Refusal × List ℕ). holder_in r.1) empty_call ∙ l.holds.holder in
      subst⁻¹ (MayHave unit) same (written_may unit (holder_in cells) (bit_at (high * 2 ^ 8) Bits.MASTER) may)

-- ---- all of them

-- every address is one that an address silo can hold
abbrev pub Fit : List ℕ → Type 0
Fit [] = Unit {0}
Fit (a ∷ list) = (a < 32) × Fit list

pub record Loaded (unit holder : ℕ) (front list : List ℕ) (w : World) : Type 0 where
  pub done : Done w (loads unit list)
  pub holding : Holding unit holder (front ++ list) (run (loads unit list) w).cells

pub load_all : (unit holder : ℕ) (list front : List ℕ) (w : World) → Holding unit holder front w.cells → Fit list → length front + length list ≤ 50
    → Loaded unit holder front list w
load_all unit holder [] front w h fit room = record { done = tt; holding = subst⁻¹ (λ (l : List ℕ). Holding unit holder l w.cells) (append-nil front) h }
load_all unit holder (a ∷ list) front w h (fits, rest) room =
    let next = load_holds unit holder front w.cells h (omega arith) a fits in
    let long = length-append front (a ∷ []) in
    let later = load_all unit holder list (front ++ (a ∷ [])) (step (write_byte unit 10 a) w) next rest (omega arith) in
    record {
      done = (load_done unit holder front w.cells h (omega arith) a fits, later.done);
      holding = subst (λ (l : List ℕ). Holding unit holder l (run (loads unit list) (step (write_byte unit 10 a) w)).cells) (append_assoc front (a ∷ []) list) later.holding;
    }

-- ---- a run and another after it

pub run_append : (es fs : List Event) (w : World) → run (es ++ fs) w ≡ run fs (run es w)
run_append [] fs w = refl
run_append (e ∷ es) fs w = run_append es fs (step e w)

pub done_append : (es fs : List Event) (w : World) → Done w es → Done (run es w) fs → Done w (es ++ fs)
done_append [] fs w d e = e
done_append (x ∷ es) fs w d e = (d.0, done_append es fs (step x w) d.1 e)
