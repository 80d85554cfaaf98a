use Rattle.jsonb.proofs.Lemmas.{AllZip, Locates, TruthsLead, truth, expression_view, filtered_after, node_spots, reverse, subst, sym, ap, ◌∙◌, and_then, steps_meaning, path_steps, refl, if_ok_as, located, frames_reversed, waits_as}
use Rattle.jsonb.proofs.selector.expressions.Evaluation.walk.Goals as goal

pub returns-in-End-clause-meant : goal.returns-in-End-clause-meant
returns-in-End-clause-meant c = λ aim top ts has at leads.
    let context = c.args.self.now.context in
    let lists = rw c.in-End.is at (c.in_ok-lists.ensures.meant top leads.0 ts leads.2) in
    if_ok_as c.finish.result (λ next l. record { trees = ts; items = at; leads = l })
    (c.finish.ensures.meant (λ t. and_then (leads.0 t) (steps_meaning context.mode (path_steps c.args.walk.steps.now) top)) leads.1 aim top ts (reverse c.args.self.now.frames.items) has at
    lists leads.3 leads.4)

pub returns-in_ok-push-in-Filter-clause-meant : goal.returns-in_ok-push-in-Filter-clause-meant
returns-in_ok-push-in-Filter-clause-meant c = λ aim top ts has at leads.
    let context = c.args.self.now.context in
    let bytes = context.document.bytes.now in
    let w = c.in-Filter.walk in
    let e = expression_view c.in-Filter.e.now in
    let before = rw c.in-Filter.is at (c.in_ok-lists.ensures.meant top leads.0 ts leads.2) in
    let vs = located bytes before.0 w.lists ts before.1 in
    let waits = waits_as context top ts (λ t. and_then (leads.0 t) (steps_meaning context.mode (path_steps c.args.walk.steps.now) top))
    (λ t. filtered_after context top e w.steps.now (before.0 t)) c.args.waits leads.1 before.2 leads.3 in
    record {
      trees = vs.0;
      items = subst (λ l. AllZip (Locates bytes) l vs.0) (sym (ap node_spots c.replace-outer.ensures.after ∙ c.in_ok-items-in-Filter.ensures.items)) vs.1;
      leads = subst (λ l. TruthsLead aim context top vs.0 (truth context.mode e top) l)
          (sym (ap reverse c.in_ok-push-in-Filter.ensures.items ∙ frames_reversed c.args.self.now.frames.items _))
          (ts, before.0, e, leads.1, subst (λ l. AllZip (Locates bytes) (node_spots l) ts) (sym c.replace-outer.ensures.value) at, before.1, vs.1, (λ t. refl), waits, leads.4);
    }
