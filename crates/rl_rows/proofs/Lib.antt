mod Due
mod Back
