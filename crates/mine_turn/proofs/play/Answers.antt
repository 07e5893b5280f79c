use mathlib.Core.Path.{sym, ◌∙◌, ap, subst}
use Prim.Native.Nat.{◌+◌}
use native.Mathlib.Omega.{arith}
use lib.ListN.{drop, drop_of_length-le}
use borrow.Author.Tests.{eq-eqb, ne_eqb}
use Rattle.laws.proofs.Lists.{drop-one}
use Rattle.mine_state.specs.declared.Mine.{Mine}
use Rattle.mine_state.specs.WellFormed.{WellFormed}
use Rattle.mine_rules.specs.Move.{moved}
use Rattle.mine_pass.specs.Pass.{played}
use Rattle.mine_pass.proofs.Keys.{key_kept}
use Rattle.controls.specs.Keys.{KEY_QUIT}
use Rattle.controls.proofs.Keys.{keyed-turned, keys_more, keys_quit, keys_end}
use Rattle.mine_turn.proofs.play.Goals as goal

pub returns-then-key-eq-KEY_QUIT : goal.returns-then-key-eq-KEY_QUIT
returns-then-key-eq-KEY_QUIT c =
    let keys = c.args.keys.now in
    let i = c.loop-key.key-index in
    λ f es n w. sym (keys_quit moved _ keys i (c.loop-key.invariant.1 f es n w) (drop-one keys i 0 (omega arith)) (eq-eqb _ KEY_QUIT c.if-key-eq-KEY_QUIT.true))

pub loop-key-preserved : goal.loop-key-preserved
loop-key-preserved c =
    let keys = c.args.keys.now in
    let r = c.loop-key.invariant.0 in
    let i = c.loop-key.key-index in
    let e = c.press-player.ensures in (
      record {
        marks = r.marks;
        them = r.them;
        many = r.many;
        slots = r.slots;
        spotted = r.spotted;
        formed = subst WellFormed (e r.marks r.them r.many r.spotted) (key_kept _ _ r.formed).formed;
      },
      λ f es n w.
          ap (λ (m : Mine). played m (drop (i + 1) keys)) (sym (e f es n w) ∙ keyed-turned moved _ _)
          ∙ keys_more moved _ keys i (c.loop-key.invariant.1 f es n w) (drop-one keys i 0 (omega arith)) (ne_eqb _ KEY_QUIT c.if-key-eq-KEY_QUIT.false),
    )

pub returns : goal.returns
returns c =
    let keys = c.args.keys.now in
    let i = c.loop-key.key-index in
    λ f es n w. sym (keys_end moved _ keys i (c.loop-key.invariant.1 f es n w) (drop_of_length-le keys {i = i} (omega arith)))
