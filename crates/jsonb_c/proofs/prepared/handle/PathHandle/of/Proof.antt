-- `of` keeps the block.
use Rattle.std.proofs.Common.{◌≡◌, List, [], ◌∷◌, ◌++◌, refl, sym, subst}
use mathlib.Core.Bool.{true}
use Rattle.std.specs.Prelude.{Some}
use mir.Val.{Val, vptr}
use base.Logic.{SProp, ent, emp, id⊢}
use base.Fml.{ftrue}
use prog.Wp.{WpFn}
use types.Kit.{‵, raw, ◌⊛◌, ◌$◌, ◌∵◌, !, qed, by, move, keep, split, fsplit, fjoin, suffices, use0}
use types.Run.{stop, fld, of_opd, true_lit, no_more, and_then, returns, enter}
use types.ByLocal.{alloc_all, pass_all, free_all, look_at, get, get_in, sets}
use types.Part.{agg, sub, whole}
use contract.Monad.{fact, fact_i}
use contract.Running.{tables}
use denote.RattleType.{RattleType, owns}
use denote.Signature.{types_at, plain}
use denote.RawPtr.{block_ptr}
use denote.Steps.{nothing}
use denote.Triple.Walked.{Stays, stay_dropped, walk_of}
use Rattle.core.proofs.alloc.Calls.{Goes-blank}
use Rattle.std.proofs.raw_atomic.Walks.{proved_at, leaves}
use Rattle.std.specs.contracts.alloc.Global as global
use Rattle.std.specs.contracts.impls.GlobalAllocator.TheImpl.{ghosts}
use Rattle.std.proofs.alloc.Global.TheLaws as global_laws
use Rattle.jsonb_c.specs.contracts.prepared.path.PreparedPath as prepared
use Rattle.jsonb_c.specs.contracts.prepared.handle.PathHandle as handle
use Rattle.jsonb_c.specs.contracts.prepared.loose.LooseBox as loose
use Rattle.jsonb_c.proofs.LooseValues.{pair, pair_fits, loose_opens}
use Rattle.jsonb_c.proofs.HandleValues.{word, Fields, fields_made}
use Rattle.jsonb_c.specs.contracts.prepared.handle.PathHandle.of.{ended, clauses}
use Rattle.jsonb_c.specs.contracts.prepared.handle.PathHandle.of.Key.{name as #self}
use Rattle.jsonb_c.proofs.prepared.handle.PathHandle.of.Statement.{statement}
use Rattle.jsonb_c.proofs.prepared.handle.PathHandle.of.Code as code

pub of_spec : {M : Type 1} → statement M
of_spec 𝓤 𝓛 𝓜 𝓡 wired =
    let H = 𝓛.H in let 𝓣 = tables 𝓤 H 𝓜 𝓡 𝓡.env in let c = clauses 𝓛 𝓜.mem 𝓡.returns in let fn = code.function in
    let R : RattleType = prepared.the_row in let Z : RattleType = global.the_row in let LZ = global_laws.the_row_laws in
    let From : RattleType = loose.the_row R Z ghosts in
    let stays : Stays ended.signature.params ended.kept = (stay_dropped (plain (λ _. From)) ended.kept.0, tt) in
    proved_at 𝓛 ended stays c 𝓜 𝓡 (Goes-blank 𝓛 0 (plain (λ _. From)) ended.kept.0 (λ κs x f. tt), tt) #self fn (code.unfolded 𝓤 H 𝓜 𝓡 wired) (λ z are.
    let v = z.0.3.0 in let Post : Val → SProp 𝓤 = (walk_of 𝓛 ended stays c).post z in let Run : List Val → SProp 𝓤 = λ ws. WpFn 𝓤 H 𝓣.C 𝓣.Λ fn ws Post in
    qed 𝓛 ((‵ ftrue ⊛ ‵ (owns (types_at ended.signature.params z.0.0) z.0.3 z.0.4)) ∷ raw ((c z.0.0 z.0.3).requires z.1) ∷ []) ∵
    split ! $ move ! (1 ∷ []) $ fsplit ! $ loose_opens R Z LZ ghosts ! v z.0.4.0 (λ b o h ws fits.
    let w : Val = pair (vptr b o) h in let there : Val = word (block_ptr b o) true in
    let new : handle.the_row.Denot = record { at = block_ptr b o; is_there = true; value = Some v.value } in
    let Clause : Type 0 = Some v.value ≡ Some v.value in
    suffices ! (Run (w ∷ [])) (subst (λ (us : List Val). ent 𝓤 (Run (w ∷ [])) (Run us)) (sym (λ i. ws i ++ [])) (id⊢ 𝓤 (Run (w ∷ [])))) $
    enter ! 𝓣.C 𝓣.Λ fn (w ∷ []) Post $ alloc_all ! (λ l. pass_all ! refl (pair_fits R Z LZ ghosts b o h fits, tt) $
    sets ! (of_opd ! (get_in ! (fld ! refl (stop !)) (sub ! 0 refl (whole !)))) refl (tt, tt) $
    sets ! (of_opd ! (get ! refl)) refl (tt, tt) $
    sets ! (agg ! (and_then ! (get ! refl) (and_then ! (true_lit !) (no_more !)))) refl (tt, (tt, (tt, tt))) $
    -- [the block; the allocator; ..]
    use0 𝓛 (‵ (Fields.own_val (block_ptr b o, (true, tt)) (there ∷ []))) (fields_made 𝓛 (block_ptr b o) true) $ fjoin ! $
    use0 𝓛 (raw (fact 𝓤 Clause)) (fact_i 𝓤 Clause (emp 𝓤) refl) $ nothing ! $ nothing ! $ fjoin ! $
    -- [what is left; the clause; the result; the allocator; nothing; nothing]
    returns ! (look_at ! 0 refl) $ free_all ! refl $ keep ! (5 ∷ 0 ∷ 2 ∷ 1 ∷ []) $
    by ! (leaves 𝓛 ended stays c z there new (tt, tt) (tt, tt)))))
