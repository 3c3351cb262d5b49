use Rattle.std.specs.Prelude.{ℤ, pos, negsuc}
use Rattle.tags.specs.declared.code.Code.{Code}
use Rattle.tags.specs.declared.code.Code.TheVariants.{UnsupportedPurpose, IncompatiblePurpose, UnsupportedAlgorithm, UnsupportedKeySize, UnsupportedBlockMode, IncompatibleBlockMode, UnsupportedMacLength, UnsupportedPaddingMode, IncompatiblePaddingMode, UnsupportedDigest, IncompatibleDigest, InvalidUserId, UnsupportedKeyFormat, InvalidInputLength, KeyNotYetValid, KeyExpired, KeyUserNotAuthenticated, InvalidOperationHandle, VerificationFailed, InvalidKeyBlob, InvalidKeyArgument, UnsupportedTag, InvalidTag, MemoryAllocationFailed, ImportParameterMismatch, MissingNonce, InvalidNonce, MissingMacLength, CallerNonceProhibited, KeyMaxOpsExceeded, InvalidMacLength, MissingMinMacLength, UnsupportedMinMacLength, KeyRequiresUpgrade, DeviceLocked, EarlyBootEnded, SystemError, PermissionDenied, KeyNotFound, ValueCorrupted, BackendBusy, OperationBusy, InvalidArgument, TooMuchData, RunFull, StoreFull, TokensFull, EntropyFault, NoTicket}

-- the number of each code
abbrev pub code_number : Code → ℤ
code_number UnsupportedPurpose = negsuc 1
code_number IncompatiblePurpose = negsuc 2
code_number UnsupportedAlgorithm = negsuc 3
code_number UnsupportedKeySize = negsuc 5
code_number UnsupportedBlockMode = negsuc 6
code_number IncompatibleBlockMode = negsuc 7
code_number UnsupportedMacLength = negsuc 8
code_number UnsupportedPaddingMode = negsuc 9
code_number IncompatiblePaddingMode = negsuc 10
code_number UnsupportedDigest = negsuc 11
code_number IncompatibleDigest = negsuc 12
code_number InvalidUserId = negsuc 14
code_number UnsupportedKeyFormat = negsuc 16
code_number InvalidInputLength = negsuc 20
code_number KeyNotYetValid = negsuc 23
code_number KeyExpired = negsuc 24
code_number KeyUserNotAuthenticated = negsuc 25
code_number InvalidOperationHandle = negsuc 27
code_number VerificationFailed = negsuc 29
code_number InvalidKeyBlob = negsuc 32
code_number InvalidKeyArgument = negsuc 37
code_number UnsupportedTag = negsuc 38
code_number InvalidTag = negsuc 39
code_number MemoryAllocationFailed = negsuc 40
code_number ImportParameterMismatch = negsuc 43
code_number MissingNonce = negsuc 50
code_number InvalidNonce = negsuc 51
code_number MissingMacLength = negsuc 52
code_number CallerNonceProhibited = negsuc 54
code_number KeyMaxOpsExceeded = negsuc 55
code_number InvalidMacLength = negsuc 56
code_number MissingMinMacLength = negsuc 57
code_number UnsupportedMinMacLength = negsuc 58
code_number KeyRequiresUpgrade = negsuc 61
code_number DeviceLocked = negsuc 71
code_number EarlyBootEnded = negsuc 72
code_number SystemError = pos 4
code_number PermissionDenied = pos 6
code_number KeyNotFound = pos 7
code_number ValueCorrupted = pos 8
code_number BackendBusy = pos 18
code_number OperationBusy = pos 19
code_number InvalidArgument = pos 20
code_number TooMuchData = pos 21
code_number RunFull = pos 1001
code_number StoreFull = pos 1002
code_number TokensFull = pos 1004
code_number EntropyFault = pos 1005
code_number NoTicket = pos 1006
