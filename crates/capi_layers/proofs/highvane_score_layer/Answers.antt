-- The layer's answer is laid out case by case: where it is a number of rows, as it was given.
use Rattle.std.proofs.Common.{refl}
use Rattle.capi_layers.proofs.LayerAnswer.{laid_out}
use Rattle.capi_layers.proofs.highvane_score_layer.Goals as goal

pub returns-in-Ok : goal.returns-in-Ok
returns-in-Ok c = laid_out _ c.in-Ok.is c.score_layer-answer.ensures refl
