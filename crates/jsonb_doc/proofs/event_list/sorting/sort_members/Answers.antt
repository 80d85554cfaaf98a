use Rattle.jsonb_doc.proofs.Lemmas.{◌≡◌, ap, rules, nat_cmp, is_lt, slice_cmp, nat_list_cmp_total, ranks_by, answers_always, has_lower_key, Member, on_ok_along}
use Rattle.jsonb_doc.proofs.event_list.sorting.sort_members.Goals as goal

pub returns-clause-sorted : goal.returns-clause-sorted
returns-clause-sorted c =
    let ranks = ranks_by nat_list_cmp_total (λ (m : Member). m.key.now) in
    on_ok_along c.sort_by.result _ _ (λ h. h has_lower_key ranks (answers_always _ _ _ (λ f a r f' k.
    let is : r ≡ slice_cmp nat_cmp a.0.now.key.now a.1.0.now.key.now = search rules in ap is_lt is))) c.sort_by.ensures.sorted

pub returns-clause-stable : goal.returns-clause-stable
returns-clause-stable c =
    let ranks = ranks_by nat_list_cmp_total (λ (m : Member). m.key.now) in
    c.sort_by.ensures.stable has_lower_key ranks (answers_always _ _ _ (λ f a r f' k.
    let is : r ≡ slice_cmp nat_cmp a.0.now.key.now a.1.0.now.key.now = search rules in ap is_lt is))
