use Rattle.std.proofs.Common.{refl}
use Rattle.macro_decls.specs.Faults.{first_fault}
use Rattle.macro_decls.proofs.Chains.{chain, none_is}
use Rattle.macro_decls.proofs.fault.first_fault.Goals as goal

pub returns : goal.returns
unfolding first_fault
returns c =
    simp (
      c.or-6.ensures,
      c.or-5.ensures,
      c.or-4.ensures,
      c.or-3.ensures,
      c.or-2.ensures,
      c.or.ensures,
      chain,
      c.at_name.ensures,
      c.at_name-2.ensures,
      c.at_role.ensures,
      c.at_role-2.ensures,
      c.at_role-3.ensures,
      c.at_role-4.ensures,
      c.at_name-3.ensures,
      c.bad_role.ensures,
      c.second_freestanding.ensures,
      c.bad_names.ensures,
      c.bad_conformances.ensures,
      c.is_empty.ensures,
      c.items-roles.ensures,
      none_is _ _ c.is_none.ensures,
    ) refl
