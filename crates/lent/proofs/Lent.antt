-- A struct in a local, lent by `&mut` or `&` and taken back: what a walk of a caller does with it. Assumes `Logic`.
use Prim.Native.Nat.{ℕ}
use mathlib.Core.List.{List, [], ◌∷◌}
use seplogic.Ra.Ura.{Ura}
use base.Fraction.{full_share}
use mir.Syntax.{Lifetime}
use mir.Val.{Val}
use base.Logic.{ent, sep, ex, guard, via, mono_l}
use base.Fml.{Incl, Lft, GName, Fml, fsep, fat, fdead, flent, fres}
use types.Logic.{Logic, sem, lfts}
use ghost.Rules.{Toks, span}
use denote.Shares.{SharesFrom}
use types.Kit.{‵, later, ◌$◌, ◌∵◌, !, qed, by, move, keep, use1, use3, fsplit, fjoin, fpick, fpack, check, await, updating, now as at_once, done}
use types.Tokens.{lent_back}
use types.SemTy.{Body}
use denote.Laws.{Is, shows}
use denote.RattleType.{RattleType}
use denote.Memory.{shared_of, cell_at, mem, part_at, part_of}
use denote.Lend.{LentRef, lends_ref, ref_back, LentShr, lends_shr}
use denote.Steps.{owned, peeks}
use denote.Struct.Declared.{Declared, fields, shape, row}
use denote.Struct.Laws as LL
use denote.Struct.Steps.{spelt}
use denote.Struct.Struct.{layout, Plains}

-- a struct's type with the kit's laws of it; it owns nothing but its fields' values
pub record Lendable : Type 2 where
  pub ty : Declared
  pub laws : LL.Laws ty
  pub plain : Plains (fields ty)

module _ (S : Lendable) where
  abbrev R : RattleType
  R = row S.ty

  abbrev D : Type 0
  D = S.ty.D

  abbrev val : D → Val
  val x = LL.val S.ty S.laws x

  -- that value stands for x
  abbrev pub Made : D → Type 0
  Made x = Is R x (val x ∷ [])

  -- the struct x in the local b
  abbrev pub Here : D → ℕ → Fml
  Here x b = fat full_share (layout (shape S.ty)) b 0 (val x)

  module _ {M : Type 1} {𝓤 : Ura M} (𝓛 : Logic 𝓤) (x : D) (b : ℕ) (κ : Lft) where
    open 𝓛 use {H, A}

    stored : Made x → ent 𝓤 (sem 𝓛 (Here x b)) (sem 𝓛 ((mem R).own_at x b 0))
    unfolding part_of
    stored is =
        qed 𝓛 (‵ (Here x b) ∷ []) ∵ use1 𝓛 (‵ (cell_at full_share R.mir (val x ∷ []) b 0)) (𝓛.laws.at_raw full_share (layout (shape S.ty)) b 0 (val x)) $
        owned ! R (Is R) (LL.makes S.ty S.plain 𝓛) x _ is $ move ! (1 ∷ 0 ∷ []) $ fjoin ! $
        fpack ! (List Val) (λ vs. fsep (cell_at full_share R.mir vs b 0) (R.own_val x vs)) (val x ∷ []) $ done !

    loaded : ent 𝓤 (sem 𝓛 ((mem R).own_at x b 0)) (guard 𝓤 (Made x) (sem 𝓛 (Here x b)))
    unfolding part_of
    loaded =
        qed 𝓛 (‵ ((mem R).own_at x b 0) ∷ []) ∵ fpick !
        (λ vs. fsplit ! $ spelt ! R (Is R) (shows 𝓛 R) (LL.vals S.ty S.laws) (LL.tells S.ty S.laws) full_share x vs b 0 $
        move ! (1 ∷ []) $ peeks ! R (Is R) (shows 𝓛 R) x _
        (λ is. check ! is $ keep ! (1 ∷ []) $ by ! (𝓛.laws.raw_at full_share (layout (shape S.ty)) b 0 (val x))))

    pub lends : (ℓ : Lifetime) → Made x → ent 𝓤 (sem 𝓛 (Here x b)) (H.⇛ (ex 𝓤 (LentRef 𝓛 R ℓ κ x b 0)))
    lends ℓ is = qed 𝓛 (‵ (Here x b) ∷ []) ∵ use1 𝓛 (‵ ((mem R).own_at x b 0)) (stored is) $ by ! (lends_ref 𝓛 R ℓ κ x b 0)

    pub back : (γ : GName) → ent 𝓤 (sep 𝓤 (A.dead κ) (sep 𝓤 (A.lent κ (Body (mem R) b 0 γ)) (A.res γ (R.coded.code x))))
        (H.⇛ (guard 𝓤 (Made x) (sem 𝓛 (Here x b))))
    back γ =
        qed 𝓛 (‵ (fdead κ) ∷ ‵ (flent κ (Body (mem R) b 0 γ)) ∷ ‵ (fres γ (R.coded.code x)) ∷ []) ∵ updating ! $
        use3 𝓛 (later (‵ ((mem R).own_at x b 0))) (ref_back 𝓛 R κ γ x b 0) $ await ! tt $ at_once ! $ by ! loaded

    -- the same by `&`
    pub shares : (ℓ : Lifetime) → Made x → (l : Lft) → SharesFrom 𝓛 full_share R x (shared_of R x) l → (ts : Toks) → Incl (span ts) l → Incl (span ts) κ
        → ent 𝓤 (sep 𝓤 (sem 𝓛 (Here x b)) (lfts 𝓛 ts)) (H.⇛ (sep 𝓤 (LentShr 𝓛 R ℓ κ full_share x b 0) (lfts 𝓛 ts)))
    shares ℓ is l from ts inner outer = via 𝓤 _ (mono_l 𝓤 (lfts 𝓛 ts) (stored is)) (lends_shr 𝓛 R ℓ κ full_share x b 0 l from ts inner outer)

    pub shared_back : ent 𝓤 (sep 𝓤 (A.dead κ) (A.lent κ (part_at R full_share x b 0))) (H.⇛ (guard 𝓤 (Made x) (sem 𝓛 (Here x b))))
    shared_back = qed 𝓛 (‵ (fdead κ) ∷ ‵ (flent κ (part_at R full_share x b 0)) ∷ []) ∵ updating ! $ lent_back ! tt $ at_once ! $ by ! loaded
