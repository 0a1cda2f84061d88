-- The numbers of the error codes (DSP0274, "Error code and error data").
use Rattle.std.specs.Prelude.{ℕ}
use Rattle.spdm_grammar.specs.declared.messages.error_code.ErrorCode.{ErrorCode}
use Rattle.spdm_grammar.specs.declared.messages.error_code.ErrorCode.TheVariants.{InvalidRequest, UnexpectedRequest, Unspecified, DecryptError, UnsupportedRequest, SessionLimitExceeded, SessionRequired, ResponseTooLarge, RequestTooLarge, LargeResponse, VersionMismatch}
use Rattle.spdm_grammar.specs.declared.names.error_number.TheConstants.{INVALID_REQUEST, UNEXPECTED_REQUEST, UNSPECIFIED, DECRYPT_ERROR, UNSUPPORTED_REQUEST, SESSION_LIMIT_EXCEEDED, SESSION_REQUIRED, RESPONSE_TOO_LARGE, REQUEST_TOO_LARGE, LARGE_RESPONSE, VERSION_MISMATCH}

abbrev pub error_number : ErrorCode → ℕ
error_number InvalidRequest = INVALID_REQUEST
error_number UnexpectedRequest = UNEXPECTED_REQUEST
error_number Unspecified = UNSPECIFIED
error_number DecryptError = DECRYPT_ERROR
error_number UnsupportedRequest = UNSUPPORTED_REQUEST
error_number SessionLimitExceeded = SESSION_LIMIT_EXCEEDED
error_number SessionRequired = SESSION_REQUIRED
error_number ResponseTooLarge = RESPONSE_TOO_LARGE
error_number RequestTooLarge = REQUEST_TOO_LARGE
error_number LargeResponse = LARGE_RESPONSE
error_number VersionMismatch = VERSION_MISMATCH
