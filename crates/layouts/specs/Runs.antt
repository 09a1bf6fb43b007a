-- A run of calls in a layout: after each of them the words are laid so.
-- Assumes nothing.
use Rattle.std.specs.Prelude.{List, [], ◌∷◌}
use Rattle.promise.specs.World.{World, Event, step, with_cells}
use Rattle.layouts.specs.Answers.{Answer, answer_of}
use Rattle.layouts.specs.Layouts.{Layout}

abbrev pub laid_in : Layout → World → World
laid_in layout w = with_cells w (layout.lay w.cells)

abbrev pub step_in : Layout → Event → World → World
step_in layout e w = laid_in layout (step e w)

-- what it leaves, and what every call answered
abbrev pub run_in : Layout → List Event → World → World
run_in layout [] w = w
run_in layout (e ∷ es) w = run_in layout es (step_in layout e w)

abbrev pub answers_in : Layout → List Event → World → List Answer
answers_in layout [] w = []
answers_in layout (e ∷ es) w = answer_of e w ∷ answers_in layout es (step_in layout e w)
