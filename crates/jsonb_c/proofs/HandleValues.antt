-- The machine value of a `PathHandle`, a pointer and a flag, and what it owns. Assumes `Logic`.
-- (Cites inner modules of the kit, which a new kit may rename, as do the proofs of `LooseBox` and `PathHandle`.)
use Rattle.std.proofs.Common.{◌≡◌, List, [], ◌∷◌, ◌++◌, refl, ap, ◌∙◌, lit<}
use mathlib.Core.Bool.{Bool, true, false}
use seplogic.Ra.Ura.{Ura}
use mir.Val.{Val, vbool, vstruct, vcons, vnil, of_list}
use base.Logic.{ent, emp}
use base.Fml.{ftrue}
use types.Logic.{Logic, sem}
use types.Kit.{Item, Goal, Seq, ‵, fpick}
use denote.RattleType.{RattleType}
use denote.Laws.{Is}
use denote.Param.{layout}
use denote.RawPtr.{Ptr, block_ptr, null_ptr, ptr_val}
use denote.Shadow.{makes_shadow}
use denote.Struct.Struct.{Struct}
use denote.Struct.Owning.{shape}
use Rattle.core.proofs.cell.Inside.{Good}
use Rattle.std.specs.Prelude.{Option, Some, None}
use Rattle.std_alloc.specs.Box.Ownership.{box_owns}
use Rattle.std.specs.contracts.impls.GlobalAllocator.TheImpl.{ghosts}
use Rattle.jsonb_c.specs.Representation.Handles.{owns_kept, the_heap}
use Rattle.jsonb_c.specs.contracts.prepared.path.PreparedPath as prepared
use Rattle.jsonb_c.specs.declared.prepared.path.PreparedPath.{PreparedPath}
use Rattle.jsonb_c.specs.contracts.prepared.handle.PathHandle as handle

abbrev pub word : Ptr → Bool → Val
word p there = vstruct (vcons (ptr_val p) (vcons (vbool there) vnil))

pub word_fits : (p : Ptr) (there : Bool) → Good (layout handle.the_row) (word p there)
word_fits null_ptr there = (tt, (record { fits = lit< tt }, (tt, tt)))
word_fits (block_ptr b o) there = (tt, (tt, (tt, tt)))

-- the fields that the machine stores
abbrev pub Fields : RattleType
Fields = Struct (shape handle.the_type)

pub fields_are : (p : Ptr) (there : Bool) (vs : List Val) → Is Fields (p, (there, tt)) vs → vs ≡ word p there ∷ []
fields_are p there vs is =
    is.1.0 ∙ ap (λ (ws : List Val). vstruct (of_list (ws ++ (is.0.1.0 ++ []))) ∷ []) is.1.1.0
    ∙ ap (λ (ws : List Val). vstruct (of_list (ptr_val p ∷ (ws ++ []))) ∷ []) is.1.1.1.0

pub fields_made : {M : Type 1} {𝓤 : Ura M} (𝓛 : Logic 𝓤) (p : Ptr) (there : Bool)
    → ent 𝓤 (emp 𝓤) (sem 𝓛 (Fields.own_val (p, (there, tt)) (word p there ∷ [])))
fields_made 𝓛 p there =
    makes_shadow 𝓛 (Fields.own_val (p, (there, tt)) (word p there ∷ [])) (λ vss. (tt, (tt, (tt, tt))))
    ((ptr_val p ∷ [], (vbool there ∷ [], tt)), (refl, (refl, (refl, tt))))

-- with the flag there is a value in a block, without it there is none
module _ {M : Type 1} {𝓤 : Ura M} {𝓛 : Logic 𝓤} {K : Type 0} {Γ : List (Item 𝓤)} {G : Goal 𝓤 𝓛.H} where
  pub kept_cases : K → (there : Bool) (p : Ptr) (kept : Option PreparedPath)
      → ((x : PreparedPath) → there ≡ true → kept ≡ Some x → Seq K 𝓛 (‵ (box_owns (ghosts.dealloc_token the_heap) prepared.the_row p x) ∷ Γ) G)
      → (there ≡ false → kept ≡ None → Seq K 𝓛 (‵ ftrue ∷ Γ) G)
      → Seq K 𝓛 (‵ (owns_kept there p kept) ∷ Γ) G
  kept_cases t true p (Some x) some none = some x refl refl
  kept_cases t false p None some none = none refl refl
  kept_cases t true p None some none = fpick t (λ e. absurd e)
  kept_cases t false p (Some x) some none = fpick t (λ e. absurd e)
