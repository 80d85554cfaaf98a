use Rattle.jsonb_doc.proofs.Lemmas.{◌∙◌, Container, kinds_told, Locates-has_children}
use Rattle.jsonb_doc.proofs.spot.Spot.is_container.Goals as goal

pub returns : goal.returns
returns c = λ bytes t m. c.eq.ensures ∙ kinds_told c.args.self.kind Container ∙ Locates-has_children bytes c.args.self t m
