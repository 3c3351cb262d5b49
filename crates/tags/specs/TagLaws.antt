-- Each tag is found by its number, and by its 28 low bits.
use Rattle.std.specs.Prelude.{◌≡◌, refl, Some}
use Rattle.tags.specs.declared.tag.Tag.{Tag}
use Rattle.tags.specs.declared.tag.Tag.TheVariants.{Purpose, Algorithm, KeySize, BlockMode, Digest, Padding, CallerNonce, MinMacLength, EarlyBootOnly, ActiveDatetime, OriginationExpireDatetime, UsageExpireDatetime, MaxUsesPerBoot, UsageCountLimit, UserId, UserSecureId, NoAuthRequired, UserAuthType, AuthTimeout, UnlockedDeviceRequired, ApplicationId, ApplicationData, CreationDatetime, Origin, OsVersion, OsPatchlevel, Nonce, MacLength}
use Rattle.tags.specs.Tag.{low_of, number_of, tag_numbered, tag_with_low}

pub numbered_is : (t : Tag) → tag_numbered (number_of t) ≡ Some t
unfolding tag_numbered
numbered_is Purpose = refl
numbered_is Algorithm = refl
numbered_is KeySize = refl
numbered_is BlockMode = refl
numbered_is Digest = refl
numbered_is Padding = refl
numbered_is CallerNonce = refl
numbered_is MinMacLength = refl
numbered_is EarlyBootOnly = refl
numbered_is ActiveDatetime = refl
numbered_is OriginationExpireDatetime = refl
numbered_is UsageExpireDatetime = refl
numbered_is MaxUsesPerBoot = refl
numbered_is UsageCountLimit = refl
numbered_is UserId = refl
numbered_is UserSecureId = refl
numbered_is NoAuthRequired = refl
numbered_is UserAuthType = refl
numbered_is AuthTimeout = refl
numbered_is UnlockedDeviceRequired = refl
numbered_is ApplicationId = refl
numbered_is ApplicationData = refl
numbered_is CreationDatetime = refl
numbered_is Origin = refl
numbered_is OsVersion = refl
numbered_is OsPatchlevel = refl
numbered_is Nonce = refl
numbered_is MacLength = refl

pub with_low_is : (t : Tag) → tag_with_low (low_of t) ≡ Some t
unfolding tag_with_low
with_low_is Purpose = refl
with_low_is Algorithm = refl
with_low_is KeySize = refl
with_low_is BlockMode = refl
with_low_is Digest = refl
with_low_is Padding = refl
with_low_is CallerNonce = refl
with_low_is MinMacLength = refl
with_low_is EarlyBootOnly = refl
with_low_is ActiveDatetime = refl
with_low_is OriginationExpireDatetime = refl
with_low_is UsageExpireDatetime = refl
with_low_is MaxUsesPerBoot = refl
with_low_is UsageCountLimit = refl
with_low_is UserId = refl
with_low_is UserSecureId = refl
with_low_is NoAuthRequired = refl
with_low_is UserAuthType = refl
with_low_is AuthTimeout = refl
with_low_is UnlockedDeviceRequired = refl
with_low_is ApplicationId = refl
with_low_is ApplicationData = refl
with_low_is CreationDatetime = refl
with_low_is Origin = refl
with_low_is OsVersion = refl
with_low_is OsPatchlevel = refl
with_low_is Nonce = refl
with_low_is MacLength = refl
