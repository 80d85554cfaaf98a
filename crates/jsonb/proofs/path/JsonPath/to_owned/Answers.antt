use Rattle.jsonb.proofs.Lemmas.{rules, path_view, err_is, path_without, refused_path}
use Rattle.jsonb.proofs.path.JsonPath.to_owned.Goals as goal

pub returns-in_err-paths-clause-errors : goal.returns-in_err-paths-clause-errors
returns-in_err-paths-clause-errors c =
    rw (err_is c.from_residual.ensures.1) (refused_path (path_view c.args.self.now) _ c.in_err-paths.ensures.errors)

pub returns-clause-whole : goal.returns-clause-whole
returns-clause-whole c = search (rules, path_without)
