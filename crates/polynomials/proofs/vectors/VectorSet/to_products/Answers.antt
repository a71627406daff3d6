use Rattle.polynomials.proofs.Results.{only_one}
use Rattle.polynomials.proofs.vectors.VectorSet.to_products.Goals as goal

pub returns-clause-only : goal.returns-clause-only
returns-clause-only c = only_one c.args.self.bits c.transformed.result c.transformed.ensures
