use Rattle.std.specs.Prelude.{ℕ, ◌+◌, ◌*◌, ◌^◌, Bool, true, false, ◌==◌, List, [], ◌∷◌, Option, codes, find}
use Rattle.std.specs.Str.{bytes_eq}
use Rattle.tags.specs.declared.tag.Tag.{Tag}
use Rattle.tags.specs.declared.tag.Tag.TheVariants.{Purpose, Algorithm, KeySize, BlockMode, Digest, Padding, CallerNonce, MinMacLength, EarlyBootOnly, ActiveDatetime, OriginationExpireDatetime, UsageExpireDatetime, MaxUsesPerBoot, UsageCountLimit, UserId, UserSecureId, NoAuthRequired, UserAuthType, AuthTimeout, UnlockedDeviceRequired, ApplicationId, ApplicationData, CreationDatetime, Origin, OsVersion, OsPatchlevel, Nonce, MacLength}
use Rattle.tags.specs.declared.tag.TagType.{TagType}
use Rattle.tags.specs.declared.tag.TagType.TheVariants as types

-- the number of a tag's type: the tag's four highest bits
abbrev pub type_number : TagType → ℕ
type_number types.Enum = 1
type_number types.EnumRep = 2
type_number types.Uint = 3
type_number types.UintRep = 4
type_number types.Ulong = 5
type_number types.Date = 6
type_number types.Bool = 7
type_number types.Bignum = 8
type_number types.Bytes = 9
type_number types.UlongRep = 10

-- the type of each tag
abbrev pub type_of : Tag → TagType
type_of Purpose = types.EnumRep
type_of Algorithm = types.Enum
type_of KeySize = types.Uint
type_of BlockMode = types.EnumRep
type_of Digest = types.EnumRep
type_of Padding = types.EnumRep
type_of CallerNonce = types.Bool
type_of MinMacLength = types.Uint
type_of EarlyBootOnly = types.Bool
type_of ActiveDatetime = types.Date
type_of OriginationExpireDatetime = types.Date
type_of UsageExpireDatetime = types.Date
type_of MaxUsesPerBoot = types.Uint
type_of UsageCountLimit = types.Uint
type_of UserId = types.Uint
type_of UserSecureId = types.UlongRep
type_of NoAuthRequired = types.Bool
type_of UserAuthType = types.Enum
type_of AuthTimeout = types.Uint
type_of UnlockedDeviceRequired = types.Bool
type_of ApplicationId = types.Bytes
type_of ApplicationData = types.Bytes
type_of CreationDatetime = types.Date
type_of Origin = types.Enum
type_of OsVersion = types.Uint
type_of OsPatchlevel = types.Uint
type_of Nonce = types.Bytes
type_of MacLength = types.Uint

-- the number of each tag: its 28 low bits
abbrev pub low_of : Tag → ℕ
low_of Purpose = 1
low_of Algorithm = 2
low_of KeySize = 3
low_of BlockMode = 4
low_of Digest = 5
low_of Padding = 6
low_of CallerNonce = 7
low_of MinMacLength = 8
low_of EarlyBootOnly = 305
low_of ActiveDatetime = 400
low_of OriginationExpireDatetime = 401
low_of UsageExpireDatetime = 402
low_of MaxUsesPerBoot = 404
low_of UsageCountLimit = 405
low_of UserId = 501
low_of UserSecureId = 502
low_of NoAuthRequired = 503
low_of UserAuthType = 504
low_of AuthTimeout = 505
low_of UnlockedDeviceRequired = 509
low_of ApplicationId = 601
low_of ApplicationData = 700
low_of CreationDatetime = 701
low_of Origin = 702
low_of OsVersion = 705
low_of OsPatchlevel = 706
low_of Nonce = 1001
low_of MacLength = 1003

-- the whole 32-bit number of a tag
abbrev pub number_of : Tag → ℕ
number_of tag = type_number (type_of tag) * 2 ^ 28 + low_of tag

-- the name of each tag, as users write it
abbrev pub name_of : Tag → List ℕ
name_of Purpose = codes "PURPOSE"
name_of Algorithm = codes "ALGORITHM"
name_of KeySize = codes "KEY_SIZE"
name_of BlockMode = codes "BLOCK_MODE"
name_of Digest = codes "DIGEST"
name_of Padding = codes "PADDING"
name_of CallerNonce = codes "CALLER_NONCE"
name_of MinMacLength = codes "MIN_MAC_LENGTH"
name_of EarlyBootOnly = codes "EARLY_BOOT_ONLY"
name_of ActiveDatetime = codes "ACTIVE_DATETIME"
name_of OriginationExpireDatetime = codes "ORIGINATION_EXPIRE_DATETIME"
name_of UsageExpireDatetime = codes "USAGE_EXPIRE_DATETIME"
name_of MaxUsesPerBoot = codes "MAX_USES_PER_BOOT"
name_of UsageCountLimit = codes "USAGE_COUNT_LIMIT"
name_of UserId = codes "USER_ID"
name_of UserSecureId = codes "USER_SECURE_ID"
name_of NoAuthRequired = codes "NO_AUTH_REQUIRED"
name_of UserAuthType = codes "USER_AUTH_TYPE"
name_of AuthTimeout = codes "AUTH_TIMEOUT"
name_of UnlockedDeviceRequired = codes "UNLOCKED_DEVICE_REQUIRED"
name_of ApplicationId = codes "APPLICATION_ID"
name_of ApplicationData = codes "APPLICATION_DATA"
name_of CreationDatetime = codes "CREATION_DATETIME"
name_of Origin = codes "ORIGIN"
name_of OsVersion = codes "OS_VERSION"
name_of OsPatchlevel = codes "OS_PATCHLEVEL"
name_of Nonce = codes "NONCE"
name_of MacLength = codes "MAC_LENGTH"

-- the table's rows
abbrev pub all_tags : List Tag
all_tags = Purpose ∷ Algorithm ∷ KeySize ∷ BlockMode ∷ Digest ∷ Padding ∷ CallerNonce ∷ MinMacLength ∷ EarlyBootOnly ∷ ActiveDatetime ∷ OriginationExpireDatetime ∷ UsageExpireDatetime ∷ MaxUsesPerBoot ∷ UsageCountLimit ∷ UserId ∷ UserSecureId ∷ NoAuthRequired ∷ UserAuthType ∷ AuthTimeout ∷ UnlockedDeviceRequired ∷ ApplicationId ∷ ApplicationData ∷ CreationDatetime ∷ Origin ∷ OsVersion ∷ OsPatchlevel ∷ Nonce ∷ MacLength ∷ []

-- the types whose tags may stand several times in a list
abbrev pub repeats : TagType → Bool
repeats types.EnumRep = true
repeats types.UintRep = true
repeats types.UlongRep = true
repeats _ = false

-- the tag of a name
abbrev pub tag_named : List ℕ → Option Tag
tag_named name = find (λ tag. bytes_eq (name_of tag) name) all_tags

-- the tag of a whole number, and none for a number that no tag has
unfoldable pub tag_numbered : ℕ → Option Tag
tag_numbered number = find (λ tag. number_of tag == number) all_tags

-- the tag with these 28 low bits, whatever its type, and none for bits that no tag has
unfoldable pub tag_with_low : ℕ → Option Tag
tag_with_low low = find (λ tag. low_of tag == low) all_tags
