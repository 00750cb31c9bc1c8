pub mod Zero
pub mod Powers
pub mod MitchellSteps
pub mod NearestSteps
pub mod StagedSteps
pub mod TruncatedSteps
pub mod Served
