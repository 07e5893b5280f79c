use Rattle.std.specs.Prelude.{Option}
use Rattle.std.specs.Option.{option_or}
use Prim.Native.Nat.{ℕ, ◌+◌}
use mathlib.Core.Path.{sym, ◌∙◌, ap, refl, subst}
use native.Mathlib.Omega.{arith}
use lib.ListN.{drop, drop_of_length-le}
use borrow.Author.Tests.{eq-eqb, ne_eqb}
use Rattle.laws.proofs.Lists.{drop-one}
use Rattle.cutter_state.specs.declared.Cutter.{Cutter}
use Rattle.cutter_turn.proofs.Keys.{left_more, left_quit, left_end}
use Rattle.cutter_rules.specs.Step.{directed}
use Rattle.cutter_pass.specs.Pass.{played}
use Rattle.controls.specs.Keys.{KEY_QUIT, turned}
use Rattle.cutter_turn.proofs.play.Goals as goal

pub loop-key-init : goal.loop-key-init
loop-key-init c = λ s. refl

pub returns-then-key-eq-KEY_QUIT : goal.returns-then-key-eq-KEY_QUIT
returns-then-key-eq-KEY_QUIT c =
    let keys = c.args.keys.now in
    let i = c.loop-key.key-index in
    left_quit keys c.loop-key.dir i c.loop-key.invariant (drop-one keys i 0 (omega arith)) (eq-eqb _ KEY_QUIT c.if-key-eq-KEY_QUIT.true)

pub loop-key-preserved : goal.loop-key-preserved
loop-key-preserved c =
    let keys = c.args.keys.now in
    let last = c.loop-key.dir in
    let i = c.loop-key.key-index in
    let e = c.or-dir.ensures ∙ ap (λ (d : Option ℕ). option_or d last) c.dir_of.ensures in
    λ s. ap (λ (d : Option ℕ). played (turned directed s d) (drop (i + 1) keys)) e
    ∙ left_more keys last i c.loop-key.invariant (drop-one keys i 0 (omega arith)) (ne_eqb _ KEY_QUIT c.if-key-eq-KEY_QUIT.false) s

pub returns : goal.returns
returns c =
    let keys = c.args.keys.now in
    let i = c.loop-key.key-index in
    left_end keys c.loop-key.dir i c.loop-key.invariant (drop_of_length-le keys {i = i} (omega arith))
