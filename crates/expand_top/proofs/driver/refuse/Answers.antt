use Rattle.expand_top.proofs.Promises.{usage_is_not_five}
use Rattle.expand_top.proofs.driver.refuse.Goals as goal

pub returns-in_default-clause-refused : goal.returns-in_default-clause-refused
returns-in_default-clause-refused g c = record {
  no_links = c.out_of_memory.ensures.links;
  none_unstarted = c.out_of_memory.ensures.unstarted;
  written = λ other. absurd (other c.out_of_memory.ensures.status);
}

pub returns-clause-memory : goal.returns-clause-memory
returns-clause-memory g c = λ five. absurd (usage_is_not_five _ _ _ _ _ (rw c.in-Ok.ensures at c.deliver-status.ensures) five)
