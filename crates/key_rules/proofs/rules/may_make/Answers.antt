use Rattle.std.proofs.Common.{◌∙◌, refl, sym}
use Rattle.std.proofs.lemmas.Bool.{eqb-false, ne_eqb}
use Rattle.key_rules.proofs.rules.may_make.Goals as goal
use Rattle.key_rules.proofs.rules.may_make.Goals.{then-descriptor-ne-DOMAIN_SELINUX, else-descriptor-ne-DOMAIN_SELINUX, then-descriptor-ne-DOMAIN_BLOB, else-descriptor-ne-DOMAIN_BLOB}

pub returns-then-stored : goal.returns-then-stored
returns-then-stored c =
    elim c.if-descriptor-ne-DOMAIN_SELINUX.branch [
      | then-descriptor-ne-DOMAIN_SELINUX w ↦ (elim c.if-descriptor-ne-DOMAIN_BLOB.branch [
        | then-descriptor-ne-DOMAIN_BLOB v ↦
            rw (v.handed-is, ne_eqb _ _ w.if-descriptor-ne-DOMAIN_SELINUX.true, ne_eqb _ _ v.if-descriptor-ne-DOMAIN_BLOB.true)
        | else-descriptor-ne-DOMAIN_BLOB v ↦ rw (v.handed-is, v.if-descriptor-ne-DOMAIN_BLOB.false, v.row_has-handed.ensures)
      ])
      | else-descriptor-ne-DOMAIN_SELINUX w ↦ (elim c.if-descriptor-ne-DOMAIN_BLOB.branch [
        | then-descriptor-ne-DOMAIN_BLOB v ↦
            rw (v.handed-is, w.if-descriptor-ne-DOMAIN_SELINUX.false, ← w.row_has-stored.ensures, ← w.stored-is, c.if-stored.true)
        | else-descriptor-ne-DOMAIN_BLOB v ↦
            absurd (eqb-false 2 3 refl (sym w.if-descriptor-ne-DOMAIN_SELINUX.false ∙ v.if-descriptor-ne-DOMAIN_BLOB.false))
      ])
    ]
