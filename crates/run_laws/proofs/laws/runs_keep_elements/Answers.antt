-- The laws, cited.
use Rattle.run_laws.proofs.Elements.{step_keeps_elements, keeps_elements, elements_in_order}
use Rattle.run_laws.proofs.laws.runs_keep_elements.Goals as goal

pub returns : goal.returns
returns c = record { step = step_keeps_elements; steps = keeps_elements; start = elements_in_order }
