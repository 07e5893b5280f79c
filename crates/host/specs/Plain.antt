-- The answers that are plain numbers: who is at a cell, where a page stands, and what a picture is refused for.
use Rattle.std.specs.Prelude.{◌&&◌, cond, List, ℕ, ◌*◌, eqb, ltb, Option}
use Rattle.refusal.specs.Refusal.{Checked, numbered_of}
use Rattle.refusal.specs.declared.Numbered.{Numbered}
use Rattle.found.specs.First.{nobody, index, number}
use Rattle.found.specs.declared.Found.{Found}
use Rattle.frame.specs.Frame.{PAGES, PAGE_LEN, FRAME_LEN}
use Rattle.host.specs.declared.plain_calls.HostFound.{HostFound}
use Rattle.host.specs.declared.plain_calls.HostPage.{HostPage}

-- found 1, or 0 for nobody, and the answer's index and number
abbrev pub found_of : Option Found → HostFound
found_of f = record { found = cond (nobody f) 0 1; index = index f; number = number f }

-- page p of a frame of so many bytes; the empty part for a number above 7 or a wrong length
unfoldable pub page_at : ℕ → ℕ → HostPage
page_at len p =
    cond (eqb len FRAME_LEN && ltb p PAGES) (record { start = p * PAGE_LEN; length = PAGE_LEN })
    (record { start = 0; length = 0 })

-- a picture's refusal in numbers, and the frame
abbrev pub picture_out : Checked × List ℕ → Numbered × List ℕ
picture_out p = (numbered_of p.0, p.1)
