-- The machine value of a `LooseBox`: its pointer and the allocator's handle. Assumes `Logic`.
-- (Cites inner modules of the kit, which a new kit may rename, as do the proofs of `LooseBox` and `PathHandle`.)
use Rattle.std.proofs.Common.{◌≡◌, ℕ, List, [], ◌∷◌, ◌++◌, refl, ap, ◌∙◌}
use mathlib.Core.Bool.{true, ◌&&◌}
use lib.Dec.{T}
use seplogic.Ra.Ura.{Ura}
use mir.Syntax.{impl, tnil, dnil}
use mir.Raw.{raw as bare}
use mir.Val.{Val, vptr, vstruct, vcons, vnil, of_list, has_ty, WT}
use base.Logic.{never, fst∗}
use base.Fml.{Fml}
use types.Logic.{Logic, sem}
use types.Kit.{Item, Goal, Seq, Step, step, ‵, ◌$◌, move, drop, fsplit, fjoin, fpick, fpack, feq_i, feq_l}
use denote.RattleType.{RattleType, Valss}
use denote.Builtin.{RawPtr}
use denote.Memory.{lone}
use denote.RawPtr.{Ptr, block_ptr, null_ptr, ptr_val, in_a_block}
use denote.Steps.{nothing}
use denote.Param.{layout}
use denote.Param.Laws.{Laws}
use denote.Struct.Struct.{within}
use denote.Struct.Owning.{shape}
use Rattle.core.specs.declared.alloc.Allocator.{Ghosts}
use Rattle.core.proofs.alloc.Calls.{Al, handle_tells}
use Rattle.core.proofs.cell.Inside.{Good}
use Rattle.std_alloc.specs.Box.Ownership.{box_owns}
use Rattle.std_alloc.proofs.ResultValues.{and_tt}
use Rattle.jsonb_c.specs.contracts.prepared.loose.LooseBox as loose

abbrev pub pair : Val → Val → Val
pair v w = vstruct (vcons v (vcons w vnil))

-- R is the value's type, Z that of the allocator's handle
module _ (R Z : RattleType) (L : Laws Z) (g : Ghosts Z.Denot) where
  abbrev pub Loose : RattleType
  Loose = loose.the_row R Z g

  abbrev pub held : Z.Denot → Ptr → R.Denot → Fml
  held a p x = box_owns (g.dealloc_token a) R p x

  pub pair_fits : (b o : ℕ) (h : Val) → Good (layout Z) h → T (has_ty (layout Z) h && true) × WT (pair (vptr b o) h)
  pair_fits b o h fits = (and_tt (has_ty (layout Z) h) fits.0, (tt, (fits.1, tt)))

  module _ {M : Type 1} {𝓤 : Ura M} {𝓛 : Logic 𝓤} {K : Type 0} {Γ : List (Item 𝓤)} {G : Goal 𝓤 𝓛.H} where
    -- taken apart: the block, and the handle
    pub loose_opens : K → (l : Loose.Denot) (vs : List Val)
        → ((b o : ℕ) (h : Val) → vs ≡ pair (vptr b o) h ∷ [] → Good (layout Z) h
        → Seq K 𝓛 (‵ (held l.alloc (block_ptr b o) l.value) ∷ ‵ (Z.own_val l.alloc (h ∷ [])) ∷ Γ) G)
        → Seq K 𝓛 (‵ (Loose.own_val l vs) ∷ Γ) G
    loose_opens t l vs k =
        let handle : Al = record { row = Z; laws = L; g = g; d = impl [] tnil dnil; drops = impl [] tnil dnil } in
        let word : List Val → List Val → List Val = λ ps hs. vstruct (of_list (ps ++ (hs ++ []))) ∷ [] in
        fsplit t $ fpick t (λ vss. fsplit t $ feq_l t (λ is. fsplit t $ feq_l t (λ is_at. fsplit t $
        handle_tells handle t l.alloc vss.1.0 (λ h is_handle fits. move t (1 ∷ []) $ drop t $ move t (1 ∷ []) $
        in_a_block t l.at (λ p. held l.alloc p l.value) (fst∗ 𝓤 (never 𝓤) (sem 𝓛 (g.dealloc_token l.alloc (bare (lone R.mir)) null_ptr)))
        (λ b o e. k b o h (is ∙ (λ i. word ((is_at ∙ ap (λ (p : Ptr). ptr_val p ∷ []) e) i) (is_handle i))) fits)))))

    -- put together
    pub loose_closes : K → (b o : ℕ) (h : Val) (a : Z.Denot) (x : R.Denot)
        → Step K 𝓛 (‵ (Loose.own_val (record { at = block_ptr b o; alloc = a; value = x }) (pair (vptr b o) h ∷ [])) ∷ Γ) G
        (‵ (held a (block_ptr b o) x) ∷ ‵ (Z.own_val a (h ∷ [])) ∷ Γ) G
    loose_closes t b o h a x = step (λ s.
        let v : Val = pair (vptr b o) h in
        nothing t $ move t (2 ∷ 0 ∷ []) $ fjoin t $ feq_i t (List Val) (vptr b o ∷ []) (vptr b o ∷ []) refl $ fjoin t $
        feq_i t (List Val) (v ∷ []) (v ∷ []) refl $ fjoin t $
        fpack t (Valss (RawPtr ∷ Z ∷ [])) (within (shape (loose.the_type R Z g)) (block_ptr b o, (a, tt)) (v ∷ [])) (vptr b o ∷ [], (h ∷ [], tt)) $
        fjoin t $ s)
