use Rattle.call_rules.proofs.rules.may_list.Goals as goal

pub returns-else-domain-ne-DOMAIN_SELINUX : goal.returns-else-domain-ne-DOMAIN_SELINUX
returns-else-domain-ne-DOMAIN_SELINUX c = rw c.if-domain-ne-DOMAIN_SELINUX.false c.has_get_info.ensures
