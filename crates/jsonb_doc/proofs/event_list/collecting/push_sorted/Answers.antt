use Rattle.jsonb_doc.proofs.Lemmas.{sorted_pushed}
use Rattle.jsonb_doc.proofs.event_list.collecting.push_sorted.Goals as goal

pub returns : goal.returns
returns c = sorted_pushed c.push_unique.result c.args.keep_last _ _ _ _ c.push_unique.ensures.pushed c.push_unique.ensures.all c.push_unique.ensures.errors
    c.in_ok-sort_members.ensures.sorted c.in_ok-sort_members.ensures.stable c.in_ok-sort_members.ensures.len
