use Rattle.expansion_model.proofs.LastParts.{last_part_by}
use Rattle.expansion_model.proofs.request.last_part.Goals as goal

pub parts-init : goal.parts-init
parts-init c = last_part_by c.args.name.now
