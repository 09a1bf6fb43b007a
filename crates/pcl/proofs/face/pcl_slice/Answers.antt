-- What a slice gives fits in the bits that there are (`slice_packed_lt`).
use Rattle.std.specs.Prelude.{List, ℕ, ◌<◌, ◌^◌, Option, Result}
use Rattle.std.proofs.Common.{ap, ◌∙◌, rules}
use Rattle.bus.specs.declared.slice.Given.{Given}
use Rattle.words.specs.declared.answers.Refusal.{Refusal}
use Rattle.pcl.specs.Laws.Bounds.{slice_packed_lt}
use Rattle.pcl.specs.Numbers.{slice_packed}
use Rattle.pcl.proofs.face.pcl_slice.Goals as goal

pub overflow_cast-result : goal.overflow_cast-result
overflow_cast-result c =
    let a = c.args in
    let h : c.pack.result < 2 ^ 32 =
    rw (c.pack.ensures.number ∙ ap (λ (p : Result (Option Given) Refusal × List ℕ). slice_packed p.0) c.slice.ensures)
    (slice_packed_lt a.cells.now a.mask a.parity) in
    search rules
