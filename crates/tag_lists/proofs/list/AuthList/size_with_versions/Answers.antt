use Rattle.std.proofs.Common.{◌≡◌, length, ap, ◌∙◌, arith}
use Rattle.std.specs.List.{sum_by}
use Rattle.tags.specs.declared.tag.Tag.TheVariants.{OsVersion, OsPatchlevel}
use Rattle.tag_lists.specs.Spelling.{spelled}
use Rattle.tag_lists.specs.Versions.{numbered, size_beside}
use Rattle.tag_lists.proofs.VersionSizes.{five_beside, size_is_beside}
use Rattle.tag_lists.proofs.list.AuthList.size_with_versions.Goals as goal

pub returns-clause-size : goal.returns-clause-size
returns-clause-size c =
    let os : c.param_size.result ≡ length (spelled (numbered OsVersion c.args.os)) = c.param_size.ensures.size ∙ ap (λ p. length (spelled p)) c.numbered.ensures.param in
    let patch : c.param_size-2.result ≡ length (spelled (numbered OsPatchlevel c.args.patch)) = c.param_size-2.ensures.size ∙ ap (λ p. length (spelled p)) c.numbered-2.ensures.param in
    let rest : c.sizes_beside.result ≡ sum_by size_beside c.args.self.now = c.sizes_beside.ensures.size ∙ ap (sum_by size_beside) c.params.ensures.params in
    omega (
      arith,
      os,
      patch,
      rest,
      size_is_beside c.args.os c.args.patch c.args.self.now (rw c.numbered.ensures.param at c.numbered.ensures.fits) (rw c.numbered-2.ensures.param at c.numbered-2.ensures.fits) c.params.ensures.canonical,
    )

pub returns-clause-few : goal.returns-clause-few
returns-clause-few c =
    let os : c.param_size.result ≡ length (spelled (numbered OsVersion c.args.os)) = c.param_size.ensures.size ∙ ap (λ p. length (spelled p)) c.numbered.ensures.param in
    let patch : c.param_size-2.result ≡ length (spelled (numbered OsPatchlevel c.args.patch)) = c.param_size-2.ensures.size ∙ ap (λ p. length (spelled p)) c.numbered-2.ensures.param in
    let rest : c.sizes_beside.result ≡ sum_by size_beside c.args.self.now = c.sizes_beside.ensures.size ∙ ap (sum_by size_beside) c.params.ensures.params in
    omega (arith, os, patch, rest, five_beside c.args.self.now c.params.ensures.canonical)
