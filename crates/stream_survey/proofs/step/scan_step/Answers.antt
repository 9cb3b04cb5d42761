use Rattle.stream_survey.proofs.Advances.{scan-ended}
use Rattle.stream_survey.proofs.step.scan_step.Goals as goal

pub returns-in-Ok-clause-forward : goal.returns-in-Ok-clause-forward
returns-in-Ok-clause-forward c = (scan-ended c.args.bytes.now c.args.shapes.now c.args.at c.in-Ok.scanned c.requires.at c.requires.few c.requires.small c.in-Ok.ensures.read).forward

pub returns-in-Ok-clause-within : goal.returns-in-Ok-clause-within
returns-in-Ok-clause-within c = (scan-ended c.args.bytes.now c.args.shapes.now c.args.at c.in-Ok.scanned c.requires.at c.requires.few c.requires.small c.in-Ok.ensures.read).within

pub returns-in-Ok-clause-few : goal.returns-in-Ok-clause-few
returns-in-Ok-clause-few c = (scan-ended c.args.bytes.now c.args.shapes.now c.args.at c.in-Ok.scanned c.requires.at c.requires.few c.requires.small c.in-Ok.ensures.read).value
