use Rattle.jsonb.proofs.Lemmas.{◌≡◌, [], ◌∷◌, None, Some, Ok, Err, IfErr, inl, ap, sym, ◌∙◌, refl, subst, err_from_is_err_and, IsOutOfMemory, steps_of, steps_meaning, IsReached, Lax, none_left, memory_alone, given_none, given_one}
use Rattle.std.specs.Result.{MatchResult}
use Rattle.jsonb.specs.SelectionErrors.{IsSelectionError}
use Rattle.jsonb.specs.declared.selector.children.StepItems.TheVariants as given
use Rattle.jsonb.proofs.selector.search.reach.Goals as goal

pub loop-given-init : goal.loop-given-init
loop-given-init c = λ top t ss a m. (t, ss, m, a, refl)

pub returns-in_err-given-clause-meant : goal.returns-in_err-given-clause-meant
returns-in_err-given-clause-meant c = λ top t ss a m.
    let inv = c.loop-given.invariant top t ss a m in
    let p = err_from_is_err_and c.from_residual.result c.from_residual.ensures.1 in
    subst (λ r. MatchResult r (IsReached c.args.bytes.now top t ss) IsOutOfMemory) (sym (p.1 ∙ ap Err p.2))
    (c.in_err-given.ensures.takes top inv.0 inv.1 inv.3 inv.2)

pub returns-in-AtMostOne-None-clause-meant : goal.returns-in-AtMostOne-None-clause-meant
returns-in-AtMostOne-None-clause-meant c = λ top t ss a m.
    let inv = c.loop-given.invariant top t ss a m in
    let k = rw c.in-Some.is at (c.in_ok-given.ensures.takes top inv.0 inv.1 inv.3 inv.2) in
    let same : c.in-AtMostOne-None.field-0 ≡ None = rw c.in-AtMostOne-None.is at c.in-AtMostOne-None.field-0-is in
    let none = given_none c.args.bytes.now c.in-Some.given k.0 (c.in-AtMostOne-None.is ∙ ap given.AtMostOne same) k.2 in
    ([], tt, inv.4 ∙ k.4 ∙ ap (steps_meaning Lax (steps_of k.1) top) none ∙ none_left Lax (steps_of k.1) top)

pub returns-in_err-items-in_default-given : goal.returns-in_err-items-in_default-given
returns-in_err-items-in_default-given c =
    let p = err_from_is_err_and c.from_residual-in_err-items-in_default-given.result c.from_residual-in_err-items-in_default-given.ensures.1 in
    record {
      meant = λ top t ss a m.
          let inv = c.loop-given.invariant top t ss a m in
          let k = rw c.in-Some.is at (c.in_ok-given.ensures.takes top inv.0 inv.1 inv.3 inv.2) in
          subst (λ r. MatchResult r (IsReached c.args.bytes.now top t ss) IsOutOfMemory) (sym (p.1 ∙ ap Err p.2))
          (memory_alone (Ok k.0) tt (c.in_err-items-in_default-given.ensures.meant k.0 k.2));
      errors = subst (λ r. IfErr r (IsSelectionError Lax)) (sym (p.1 ∙ ap Err p.2)) (inl c.in_err-items-in_default-given.ensures.errors);
    }

pub returns-in_default-given : goal.returns-in_default-given
returns-in_default-given c = record {
  meant = λ top t ss a m.
      let inv = c.loop-given.invariant top t ss a m in
      let k = rw c.in-Some.is at (c.in_ok-given.ensures.takes top inv.0 inv.1 inv.3 inv.2) in
      (k.0, k.1, (c.in_ok-items-in_default-given.ensures.meant k.0 k.2).ok, k.3, inv.4 ∙ k.4);
  errors = tt;
}

pub loop-given-preserved : goal.loop-given-preserved
loop-given-preserved c = λ top t ss a m.
    let inv = c.loop-given.invariant top t ss a m in
    let k = rw c.in-Some.is at (c.in_ok-given.ensures.takes top inv.0 inv.1 inv.3 inv.2) in
    let same : c.in-AtMostOne-Some.field-0 ≡ Some c.in-AtMostOne-Some.next = rw c.in-AtMostOne-Some.is at c.in-AtMostOne-Some.field-0-is in
    let one = given_one c.args.bytes.now c.in-Some.given c.in-AtMostOne-Some.next k.0 (c.in-AtMostOne-Some.is ∙ ap given.AtMostOne same) k.2 in
    (one.0, k.1, rw c.spot_by_parts-item.ensures one.2, k.3, inv.4 ∙ k.4 ∙ ap (steps_meaning Lax (steps_of k.1) top) one.1)

pub returns-clause-meant : goal.returns-clause-meant
returns-clause-meant c = λ top t ss a m.
    let inv = c.loop-given.invariant top t ss a m in
    let none = rw c.in_default.is at (c.in_ok-given.ensures.takes top inv.0 inv.1 inv.3 inv.2) in
    (inv.0 ∷ [], (inv.2, tt), inv.4 ∙ ap (λ l. steps_meaning Lax (steps_of l) top (inv.0 ∷ [])) none)
