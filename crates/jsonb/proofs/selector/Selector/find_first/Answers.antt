use Rattle.jsonb.proofs.Lemmas.{◌≡◌, Ok, is_some, ap, sym, expression_view, path_view, steps_view, only_expression, expression_told, is_expression, no_expression, first_is, given_by, answered}
use Rattle.jsonb.proofs.selector.Selector.find_first.Goals as goal

pub returns-clause-first : goal.returns-clause-first
returns-clause-first c = λ form top outcome d m.
    let k = c.in_ok-context.ensures.meant form top d in
    let told = expression_told (λ e. expression_view e.now) (steps_view c.deref-2.result.now) c.only_expression.result c.is_some-computed.result
    c.is_some-computed.ensures c.only_expression.ensures in
    let same : steps_view c.deref-2.result.now ≡ path_view c.args.path.now = ap steps_view c.deref-2.ensures.value in
    let here : c.is_some-computed.result ≡ is_some (only_expression (path_view c.args.path.now)) = rw same at told in
    let first : steps_view c.deref.result.now ≡ path_view c.args.path.now = ap steps_view c.deref.ensures.value in
    given_by ((rw c.in_ok-context.ensures.mode at c.in_ok-selected.ensures.meant) form top outcome k.1 (rw (sym c.deref.ensures.value) at m))
    (λ ts h. answered {o = Ok ts} (first_is _ _ c.is_some-computed.result _ c.first_of.result h.0 ts k.0 (is_expression (path_view c.args.path.now) _ here) h.2
    (c.first_of.ensures form c.in_ok-context.context.document h.0
    (λ f. c.in_ok-selected.ensures.nodes (rw (sym first) at (no_expression (only_expression (path_view c.args.path.now)) _ here f))) h.1)))
