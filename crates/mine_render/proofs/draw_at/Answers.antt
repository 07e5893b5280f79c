use native.Mathlib.Omega.{arith}
use mathlib.Core.Path.{sym, ◌∙◌}
use Rattle.std.proofs.lemmas.Bool.Decides.{nat_tests}
use Rattle.mine_render.proofs.Stamp.{outside, stamp_sprites}
use Rattle.mine_render.proofs.draw_at.Goals as goal

pub returns-then-shows : goal.returns-then-shows
returns-then-shows c =
    let a = c.args in
    c.blit.ensures ∙ stamp_sprites a.view.x a.view.y a.x a.y a.pat a.frame.now _ (grind (arith, nat_tests)) (grind (arith, nat_tests)) c.columns.ensures

pub returns-else-shows : goal.returns-else-shows
returns-else-shows c =
    let a = c.args in
    outside a.view.x a.view.y a.x a.y a.pat a.frame.now c.requires (sym c.if-shows.ensures)
