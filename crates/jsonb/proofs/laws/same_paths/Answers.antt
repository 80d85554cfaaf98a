use Rattle.jsonb.proofs.Lemmas.{path-symmetric, path-transitive, document_equals_nothing}
use Rattle.jsonb.proofs.laws.same_paths.Goals as goal

pub returns : goal.returns
returns c = record { symmetric = path-symmetric; transitive = path-transitive; documents = document_equals_nothing }
