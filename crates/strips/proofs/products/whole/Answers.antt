-- The float is that of an integer, which a binary64 holds and an i32 takes back.
use Rattle.std.proofs.Common.{not, ap, ◌∙◌, to_z-of_z, w32}
use lib.Ieee.{binary32, binary64, fits, is_nan, of_bits, to_signed}
use lib.Ieee.Bits.{nan_bits_is, of_bits-fits}
use lib.Ieee.Casts.{to_signed_in}
use lib.Ieee.Fits.{and_i, fits_widens}
use Rattle.patterns.proofs.Values.{cast-back, stands-no-nan}
use Rattle.strips.proofs.products.whole.Goals as goal

pub float_from_bits-result : goal.float_from_bits-result
float_from_bits-result c = rw (nan_bits_is binary32 c.args.p) (stands-no-nan c.requires.1)

pub float_to_float-result : goal.float_to_float-result
float_to_float-result c =
    let x = of_bits binary32 c.args.p in
    and_i (fits binary64 x) (not (is_nan x)) (fits_widens x (of_bits-fits binary32 c.args.p)) (stands-no-nan c.requires.1)

pub float_to_int-result : goal.float_to_int-result
float_to_int-result c = let s = c.requires.1 in rw s.float (cast-back _ s.small).0

pub returns : goal.returns
returns c z s =
    to_z-of_z {w = w32} (record { sfits = to_signed_in 31 (of_bits binary32 c.args.p) }) ∙ ap (to_signed 31) s.float ∙ (cast-back z s.small).1
