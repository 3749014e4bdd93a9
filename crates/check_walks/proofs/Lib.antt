-- Laws for the functions' proofs; the theorems stand in `check_meaning`.
pub mod SurveyTurns
pub mod VerdictCases
