-- What the host is sure of: a state that it got is never refused for a flag, so a call on it gives what the public call gives; and a call that
-- leaves the game's state leaves the host's, byte for byte. Assumes nothing.
use mathlib.Core.Path.{◌≡◌, refl, sym, ap, ◌∙◌}
use Rattle.refusal.proofs.Calls.{none_of, answered_by, refused_or-answered}
use Rattle.mine_state.specs.declared.Mine.{Mine}
use Rattle.mine.specs.declared.calls.MineAnswer.{MineAnswer}
use Rattle.cutter_state.specs.declared.Cutter.{Cutter}
use Rattle.cutter.specs.declared.calls.CutterAnswer.{CutterAnswer}
use Rattle.host_state.specs.declared.mine_bytes.HostMine.{HostMine}
use Rattle.host_state.specs.declared.cutter_bytes.HostCutter.{HostCutter}
use Rattle.host_state.specs.Mine as SM
use Rattle.host_state.specs.Cutter as SC
use Rattle.host_state.proofs.Back.{mine-back, mine_passes, mine_as_it_came, cutter-back, cutter_passes, cutter_as_it_came}
use Rattle.host.specs.Mine as M
use Rattle.host.specs.Cutter as C
use Rattle.host.specs.declared.mine_calls.HostMineAnswer.{HostMineAnswer}
use Rattle.host.specs.declared.cutter_calls.HostCutterAnswer.{HostCutterAnswer}

pub mine_handed_back : (call : Mine → MineAnswer) (m : Mine) → M.hosted (SM.host_of m) (call (SM.game_of (SM.host_of m))) ≡ M.answer_out (call m)
unfolding M.hosted
mine_handed_back call m =
    answered_by (M.refused (SM.host_of m)) _ (SM.flags_of (SM.host_of m)) (none_of (sym (mine_passes m)) refl)
    ∙ ap (λ (s : Mine). M.answer_out (call s)) (mine-back m)

pub cutter_handed_back : (call : Cutter → CutterAnswer) (c : Cutter) → C.hosted (SC.host_of c) (call (SC.game_of (SC.host_of c))) ≡ C.answer_out (call c)
unfolding C.hosted
cutter_handed_back call c =
    answered_by (C.refused (SC.host_of c)) _ (SC.flags_of (SC.host_of c)) (none_of (sym (cutter_passes c)) refl)
    ∙ ap (λ (s : Cutter). C.answer_out (call s)) (cutter-back c)

pub mine-left : (h : HostMine) (a : MineAnswer) → a.game ≡ SM.game_of h → (M.hosted h a).game ≡ h
unfolding M.hosted
mine-left h a e =
    refused_or-answered (M.refused h) (M.answer_out a) (λ (r : HostMineAnswer). r.game ≡ h) (SM.flags_of h) (λ _. refl)
    (λ z. ap SM.host_of e ∙ mine_as_it_came h z)

pub cutter-left : (h : HostCutter) (a : CutterAnswer) → a.game ≡ SC.game_of h → (C.hosted h a).game ≡ h
unfolding C.hosted
cutter-left h a e =
    refused_or-answered (C.refused h) (C.answer_out a) (λ (r : HostCutterAnswer). r.game ≡ h) (SC.flags_of h) (λ _. refl)
    (λ z. ap SC.host_of e ∙ cutter_as_it_came h z)
