use Rattle.message_fields.proofs.CoveredRequests.{requests_covered}
use Rattle.message_fields.proofs.CoveredResponses.{records_covered, responses_covered}
use Rattle.message_fields.proofs.laws.fields_cover.Goals as goal

pub returns-clause-requests : goal.returns-clause-requests
returns-clause-requests c = requests_covered

pub returns-clause-responses : goal.returns-clause-responses
returns-clause-responses c = responses_covered

pub returns-clause-records : goal.returns-clause-records
returns-clause-records c = records_covered
