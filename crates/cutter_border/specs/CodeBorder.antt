-- The walk to the border as the code makes it, breadth first: a list of the cells reached, and a position in it. No promise cites it.
use Rattle.std.specs.Prelude.{true, false, cond, ◌&&◌, not, List, [], ◌∷◌, ◌++◌, ℕ, zero, suc, ◌+◌, ltb, length, get_or}
use Rattle.cutter_ground.specs.Cells.{CN, left_of, right_of, up_of, down_of, on_border}
use Rattle.cutter_border.specs.declared.Walked.{Walked}
use Rattle.cutter_border.specs.Walks.{claimed_cell}
use Rattle.cutter_border.specs.Taken.{among}

-- a claimed cell not yet reached is reached: it stands behind those reached before
unfoldable pub reach : List ℕ → List ℕ → ℕ → List ℕ
reach g cells c = cond (claimed_cell g c && not (among c cells)) (cells ++ c ∷ []) cells

-- the neighbours left, right, up, down
unfoldable pub reach_around : List ℕ → List ℕ → ℕ → List ℕ
reach_around g cells c = reach g (reach g (reach g (reach g cells (left_of c)) (right_of c)) (up_of c)) (down_of c)

-- the cells from the i-th on are still to be taken: the first beside black ends the walk, and where none is left it ends at start.
-- n is at least the number of cells that can still be taken.
unfoldable pub walk : ℕ → List ℕ → ℕ → List ℕ → ℕ → Walked
walk zero g start cells i = record { at = start; taken = i }
walk (suc n) g start cells i =
    elim (ltb i (length cells)) [
      | true ↦ elim (on_border g (get_or cells i CN)) [
        | true ↦ record { at = get_or cells i CN; taken = i + 1 }
        | false ↦ walk n g start (reach_around g cells (get_or cells i CN)) (i + 1)
      ]
      | false ↦ record { at = start; taken = i }
    ]

-- if the player at start isn't beside black, a breadth-first walk ends at the first cell beside black; if none, no move
unfoldable pub to_border : List ℕ → ℕ → Walked
to_border g start = cond (on_border g start) (record { at = start; taken = 0 }) (walk CN g start (start ∷ []) 0)
