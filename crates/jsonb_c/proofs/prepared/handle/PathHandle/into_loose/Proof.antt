-- `into_loose` gives the block back, if there is one.
use Rattle.std.proofs.Common.{◌≡◌, List, [], ◌∷◌, ◌++◌, refl, sym, ◌∙◌, subst, lit<}
use mathlib.Core.Bool.{true, false}
use Rattle.std.specs.Prelude.{Option, Some, None}
use mir.Raw.{raw as bare}
use mir.Syntax.{impl, tnil, dnil}
use mir.Val.{Val, vptr, vcons, vnil}
use base.Logic.{SProp, ent, emp, never, id⊢, fst∗}
use base.Fml.{ftrue}
use prog.Wp.{WpFn}
use types.Logic.{sem}
use types.Kit.{‵, raw, ◌⊛◌, at_ret, ◌$◌, ◌∵◌, !, qed, by, move, keep, drop, split, fsplit, fsplit3, fjoin, suffices, use0, use1}
use types.Run.{stop, fld, lit, of_opd, no_more, and_then, first, branches, exec, returns, enter}
use types.ByLocal.{alloc_all, pass_all, free_all, look_at, get, get_in, sets, sets_last, env}
use types.Part.{agg, sub, whole}
use types.Match.{live}
use contract.Monad.{fact, fact_i}
use contract.Running.{tables}
use denote.Memory.{lone}
use denote.RattleType.{RattleType, owns}
use denote.Signature.{types_at, type_at, plain}
use denote.RawPtr.{block_ptr, null_ptr, in_a_block}
use denote.Steps.{nothing}
use denote.Param.{layout}
use denote.Triple.Walked.{Stays, stay_dropped, walk_of, Goes-dropped}
use Rattle.core.proofs.alloc.Calls.{Al, handle_tells, Goes-blank}
use Rattle.core.proofs.alloc.Shapes.{after}
use Rattle.core.proofs.atomic.Steps.{Ptr-Good}
use Rattle.core.proofs.cell.Inside.{Good}
use Rattle.core.proofs.option.Made.{Some-of, none_of}
use Rattle.std.proofs.raw_atomic.Walks.{proved_at, leaves}
use Rattle.std.specs.contracts.alloc.Global as global
use Rattle.std.specs.contracts.impls.GlobalAllocator.TheImpl.{ghosts}
use Rattle.std.proofs.alloc.Global.TheLaws as global_laws
use Rattle.std_alloc.specs.Box.Ownership.{box_owns}
use Rattle.std_alloc.proofs.ResultValues.{and_tt}
use Rattle.jsonb_c.specs.Representation.Handles.{the_heap}
use Rattle.jsonb_c.specs.contracts.prepared.path.PreparedPath as prepared
use Rattle.jsonb_c.specs.contracts.prepared.handle.PathHandle as handle
use Rattle.jsonb_c.proofs.LooseValues.{pair, Loose, pair_fits, loose_closes}
use Rattle.jsonb_c.proofs.HandleValues.{word, word_fits, fields_are, kept_cases}
use Rattle.jsonb_c.specs.contracts.prepared.handle.PathHandle.into_loose.{ended, clauses}
use Rattle.jsonb_c.specs.contracts.prepared.handle.PathHandle.into_loose.Key.{name as #self}
use Rattle.jsonb_c.proofs.prepared.handle.PathHandle.into_loose.Statement.{statement}
use Rattle.jsonb_c.proofs.prepared.handle.PathHandle.into_loose.Code as code

pub into_loose_spec : {M : Type 1} → statement M
into_loose_spec 𝓤 𝓛 𝓜 𝓡 wired =
    let H = 𝓛.H in let 𝓣 = tables 𝓤 H 𝓜 𝓡 𝓡.env in let c = clauses 𝓛 𝓜.mem 𝓡.returns in let fn = code.function in
    let R : RattleType = prepared.the_row in let Z : RattleType = global.the_row in let LZ = global_laws.the_row_laws in
    let From : RattleType = handle.the_row in let To : RattleType = Loose R Z LZ ghosts in
    let al : Al = record { row = Z; laws = LZ; g = ghosts; d = impl [] tnil dnil; drops = impl [] tnil dnil } in
    let stays : Stays ended.signature.params ended.kept = (stay_dropped (plain (λ _. From)) ended.kept.0, (stay_dropped (plain (λ _. Z)) ended.kept.1.0, tt)) in
    proved_at 𝓛 ended stays c 𝓜 𝓡 (Goes-blank 𝓛 0 (plain (λ _. From)) ended.kept.0 (λ κs x f. tt), (Goes-dropped 𝓛 0 (plain (λ _. Z)) ended.kept.1.0 (λ κs x f. refl), tt))
    #self fn (code.unfolded 𝓤 H 𝓜 𝓡 wired) (λ z are.
    let v = z.0.3.0 in let a = z.0.3.1.0 in let Out : RattleType = type_at ended.signature.result z.0.0 in
    let Post : Val → SProp 𝓤 = (walk_of 𝓛 ended stays c).post z in let Run : List Val → SProp 𝓤 = λ ws. WpFn 𝓤 H 𝓣.C 𝓣.Λ fn ws Post in
    let is : z.0.4.0 ≡ word v.at v.is_there ∷ [] = fields_are v.at v.is_there z.0.4.0 are.0.0 in
    qed 𝓛 ((‵ ftrue ⊛ ‵ (owns (types_at ended.signature.params z.0.0) z.0.3 z.0.4)) ∷ raw ((c z.0.0 z.0.3).requires z.1) ∷ []) ∵
    split ! $ move ! (1 ∷ []) $ fsplit3 ! $ fsplit ! $ drop ! $
    -- [what it owns; the allocator; nothing; the tokens; the clause]
    kept_cases ! v.is_there v.at v.value
    (λ x there is_x. in_a_block ! v.at (λ p. box_owns (ghosts.dealloc_token the_heap) R p x) (fst∗ 𝓤 (never 𝓤) (sem 𝓛 (ghosts.dealloc_token the_heap (bare (lone R.mir)) null_ptr))) (λ b o e.
    move ! (1 ∷ []) $ handle_tells al ! a z.0.4.1.0 (λ h eh fits. move ! (1 ∷ []) $
    let us : List Val = word (block_ptr b o) true ∷ h ∷ [] in let made : Val = pair (vptr b o) h in let some : Val = live 1 (vcons made vnil) in
    let d : To.Denot = record { at = block_ptr b o; alloc = a; value = x } in let fits_made = pair_fits R Z LZ ghosts b o h fits in
    let fits_some : Good (layout Out) some = (and_tt _ fits_made.0, (record { fits = lit< tt }, (fits_made.1, tt))) in
    let Clause : Type 0 = Some x ≡ v.value in
    suffices ! (Run us) (subst (λ (ws : List Val). ent 𝓤 (Run us) (Run ws)) (sym (λ j. (is ∙ (λ i. word (e i) (there i) ∷ [])) j ++ (eh j ++ []))) (id⊢ 𝓤 (Run us))) $
    enter ! 𝓣.C 𝓣.Λ fn us Post $ alloc_all ! (λ l. pass_all ! refl (word_fits (block_ptr b o) true, (fits, tt)) $ let Ev = env fn.locals l in
    sets ! (of_opd ! (get_in ! (fld ! refl (stop !)) (sub ! 0 refl (whole !)))) refl (tt, tt) $
    sets ! (of_opd ! (get_in ! (fld ! refl (stop !)) (sub ! 1 refl (whole !)))) refl (tt, tt) $
    sets ! (of_opd ! (get ! refl)) refl (tt, tt) $ first ! $ branches ! (get ! refl)
    (λ _. sets ! (of_opd ! (get ! refl)) refl (tt, tt) $
    sets ! (agg ! (and_then ! (get ! refl) (and_then ! (get ! refl) (no_more !)))) refl fits_made $
    sets_last ! (agg ! (and_then ! (lit ! tt) (and_then ! (get ! refl) (no_more !)))) refl fits_some $
    exec ! 𝓣.C 𝓣.Λ Ev (after 4 fn.body) (at_ret Ev Post) $ sets ! (of_opd ! (get ! refl)) refl fits_some $
    loose_closes R Z LZ ghosts ! b o h a x $ use1 𝓛 (‵ (Out.own_val (Some d) (some ∷ []))) (Some-of 𝓛 To d made) $
    use0 𝓛 (raw (fact 𝓤 Clause)) (fact_i 𝓤 Clause (emp 𝓤) (sym is_x)) $ nothing ! $ nothing ! $ fjoin ! $ nothing ! $ fjoin ! $
    -- [what is left; the clause; the result; nothing; the tokens]
    returns ! (look_at ! 0 refl) $ free_all ! refl $ keep ! (4 ∷ 0 ∷ 2 ∷ 1 ∷ []) $ by ! (leaves 𝓛 ended stays c z some (Some d) (tt, (tt, tt)) (tt, (tt, tt))))
    (λ wrong. absurd wrong)))))
    (λ away is_none. move ! (1 ∷ []) $ handle_tells al ! a z.0.4.1.0 (λ h eh fits.
    let us : List Val = word v.at false ∷ h ∷ [] in let none : Val = live 0 vnil in let fits_none : Good (layout Out) none = (tt, (record { fits = lit< tt }, tt)) in
    let nothing_there : Option To.Denot = None in let Clause : Type 0 = None ≡ v.value in
    suffices ! (Run us) (subst (λ (ws : List Val). ent 𝓤 (Run us) (Run ws)) (sym (λ j. (is ∙ (λ i. word v.at (away i) ∷ [])) j ++ (eh j ++ []))) (id⊢ 𝓤 (Run us))) $
    enter ! 𝓣.C 𝓣.Λ fn us Post $ alloc_all ! (λ l. pass_all ! refl (word_fits v.at false, (fits, tt)) $ let Ev = env fn.locals l in
    sets ! (of_opd ! (get_in ! (fld ! refl (stop !)) (sub ! 0 refl (whole !)))) refl (Ptr-Good v.at) $
    sets ! (of_opd ! (get_in ! (fld ! refl (stop !)) (sub ! 1 refl (whole !)))) refl (tt, tt) $
    sets ! (of_opd ! (get ! refl)) refl (tt, tt) $ first ! $ branches ! (get ! refl)
    (λ wrong. absurd wrong)
    (λ _. sets_last ! (agg ! (and_then ! (lit ! tt) (no_more !))) refl fits_none $
    exec ! 𝓣.C 𝓣.Λ Ev (after 4 fn.body) (at_ret Ev Post) $ sets ! (of_opd ! (get ! refl)) refl fits_none $
    use0 𝓛 (‵ (Out.own_val None (none ∷ []))) (none_of 𝓛 To) $
    use0 𝓛 (raw (fact 𝓤 Clause)) (fact_i 𝓤 Clause (emp 𝓤) (sym is_none)) $ nothing ! $ nothing ! $ fjoin ! $ nothing ! $ fjoin ! $
    -- [what is left; the clause; the result; the allocator; nothing; nothing; the tokens]
    returns ! (look_at ! 0 refl) $ free_all ! refl $ keep ! (6 ∷ 0 ∷ 2 ∷ 1 ∷ []) $ by ! (leaves 𝓛 ended stays c z none None (tt, (tt, tt)) (tt, (tt, tt))))))))
