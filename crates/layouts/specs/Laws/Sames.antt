-- Being the same but for the layout goes both ways and on; and two steps that leave sides that agree leave states that are the same.
-- Assumes nothing.
use Rattle.std.specs.Prelude.{true, List, ◌≡◌, refl, ℕ, ◌<◌}
use Rattle.std.proofs.Common.{sym, subst, ◌∙◌}
use Rattle.std.proofs.Math.Path.{subst⁻¹}
use Rattle.cells.specs.Layout.{count_in}
use Rattle.cells.specs.Ranges.{in_range}
use Rattle.cells.specs.Laws.FrameLaws.{transmitter_address_kept, receiver_address_kept, memory_length_kept}
use Rattle.cells.proofs.Laws.IndexLaws.{with_kept}
use Rattle.frames.specs.Laws.Leaves.{Agree, Holds, Leaves}
use Rattle.frames.specs.Laws.Sides.{Sides, sides_of}
use Rattle.layouts.specs.Same.{Same}

module _ {n : ℕ} {a b : Sides} (h : Agree n a b) where
  agree_back : Agree n b a
  agree_back =
      record {
        holder = sym h.holder;
        transmitter = λ k there. sym (h.transmitter k there);
        receiver = λ k there. sym (h.receiver k there);
        master = λ k there. sym (h.master k there);
      }

  agree_then : {c : Sides} → Agree n b c → Agree n a c
  agree_then g =
      record {
        holder = h.holder ∙ g.holder;
        transmitter = λ k there. h.transmitter k there ∙ g.transmitter k there;
        receiver = λ k there. h.receiver k there ∙ g.receiver k there;
        master = λ k there. h.master k there ∙ g.master k there;
      }

pub same_all : {cells : List ℕ} → in_range cells ≡ true → Same cells cells
same_all ok =
    record {
      ranged = ok;
      other_ranged = ok;
      room = refl;
      count = refl;
      index = λ k a h. refl;
      own = λ k there. record { sends_as = refl; receives_as = refl; memory = refl };
      sides = record { holder = refl; transmitter = λ k there. refl; receiver = λ k there. refl; master = λ k there. refl };
    }

module _ {a b : List ℕ} (h : Same a b) where
  pub same_back : Same b a
  same_back =
      record {
        ranged = h.other_ranged;
        other_ranged = h.ranged;
        room = sym h.room;
        count = sym h.count;
        index = λ k a side. sym (h.index k a side);
        own = λ k there.
            let o = h.own k (subst (λ (n : ℕ). k < n) h.count there) in
            record { sends_as = sym o.sends_as; receives_as = sym o.receives_as; memory = sym o.memory };
        sides = subst⁻¹ (λ (n : ℕ). Agree n (sides_of b) (sides_of a)) h.count (agree_back h.sides);
      }

  pub same_then : {c : List ℕ} → Same b c → Same a c
  same_then {c} g =
      record {
        ranged = h.ranged;
        other_ranged = g.other_ranged;
        room = g.room ∙ h.room;
        count = g.count ∙ h.count;
        index = λ k a side. g.index k a side ∙ h.index k a side;
        own = λ k there.
            let first = h.own k there in
            let then = g.own k (subst⁻¹ (λ (n : ℕ). k < n) h.count there) in
            record { sends_as = then.sends_as ∙ first.sends_as; receives_as = then.receives_as ∙ first.receives_as; memory = then.memory ∙ first.memory };
        sides = agree_then h.sides (subst (λ (n : ℕ). Agree n (sides_of b) (sides_of c)) h.count g.sides);
      }

-- the sides that cells hold are those that they are read as
held_agree : {cells : List ℕ} {n : ℕ} {s : Sides} → Holds cells n s → Agree n (sides_of cells) s
held_agree h = record { holder = h.holder; transmitter = h.transmitter; receiver = h.receiver; master = h.master }

module _ {touched here : ℕ → Type 0} {cells other after later : List ℕ} {s t : Sides} (h : Same cells other) (l : Leaves touched cells after s) (g : Leaves here other later t) where
  pub left_same : Agree (count_in cells) s t → Same after later
  left_same agree =
      let count = l.kept.count in
      record {
        ranged = l.ranged;
        other_ranged = g.ranged;
        room = g.kept.room ∙ h.room ∙ sym l.kept.room;
        count = g.kept.count ∙ h.count ∙ sym count;
        index = λ k a side.
            with_kept other later g.kept.index g.kept.count k a side
            ∙ h.index k a side
            ∙ sym (with_kept cells after l.kept.index count k a side);
        own = λ k there.
            let same = h.own k (subst (λ (n : ℕ). k < n) count there) in
            record {
              sends_as = transmitter_address_kept other later g.kept.own k ∙ same.sends_as ∙ sym (transmitter_address_kept cells after l.kept.own k);
              receives_as = receiver_address_kept other later g.kept.own k ∙ same.receives_as ∙ sym (receiver_address_kept cells after l.kept.own k);
              memory = memory_length_kept other later g.kept.own k ∙ same.memory ∙ sym (memory_length_kept cells after l.kept.own k);
            };
        sides =
            subst⁻¹ (λ (n : ℕ). Agree n (sides_of after) (sides_of later)) count
            (agree_then (agree_then (held_agree l.holds) agree)
            (agree_back (subst (λ (n : ℕ). Agree n (sides_of later) t) h.count (held_agree g.holds))));
      }
