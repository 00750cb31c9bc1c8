-- The mask leaves the sign and the exponent field.
use Rattle.strips.proofs.LeadingPowers.{lead-of}
use Rattle.strips.proofs.products.lead_code.Goals as goal

pub returns : goal.returns
returns c z l e = lead-of z l e
