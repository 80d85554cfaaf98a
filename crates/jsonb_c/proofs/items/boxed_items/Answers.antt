use Rattle.std.proofs.Common.{Ok, Err, ap, inl, inr, refl, subst, ◌∙◌}
use Rattle.std.proofs.lemmas.Result.{err_from_is_err_and}
use Rattle.jsonb_doc.specs.declared.error.Error.TheVariants.{OutOfMemory}
use Rattle.jsonb_raw.specs.Documents.{raw_bytes}
use Rattle.jsonb.specs.FoundItems.{IsItemOf}
use Rattle.jsonb.specs.PathViews.{path_view}
use Rattle.jsonb.specs.SelectorAnswers.{ByMeanings, AreAll}
use Rattle.jsonb_c.specs.Calls.{mode_of}
use Rattle.jsonb_c.specs.declared.status.Status.TheVariants.{Refused}
use Rattle.jsonb_c.proofs.items.boxed_items.Goals as goal

pub returns-in_err-box_items : goal.returns-in_err-box_items
returns-in_err-box_items c =
    let p = err_from_is_err_and c.from_residual-in_err-box_items.result c.from_residual-in_err-box_items.ensures.1 in (
      Err OutOfMemory,
      (λ form top outcome d m. record { ok = tt; err = inl (inl refl) }),
      inl (inl (inr refl)),
      rw p.1 (p.2 ∙ ap Refused c.in_err-box_items.ensures),
    )

pub returns : goal.returns
returns c =
    let found = c.in_ok-found.found in
    let path = path_view c.args.path.now in
    let root = raw_bytes c.selector.result.root in (
      Ok found,
      subst (λ b. ByMeanings (mode_of c.args.strict) b path (AreAll (IsItemOf b)) (Ok found)) c.selector.ensures.root
          (subst (λ mode. ByMeanings mode root path (AreAll (IsItemOf root)) (Ok found)) c.selector.ensures.mode
          c.in_ok-found.ensures.items),
      tt,
      c.in_ok-box_items.ensures,
    )
